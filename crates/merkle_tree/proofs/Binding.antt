-- A root binds its digests: other digests under it clash.
use Rattle.std.proofs.Common.{◌≡◌, ◌≢◌, ℕ, zero, suc, ◌+◌, ◌-◌, ◌*◌, ◌^◌, ◌<◌, ◌≤◌, List, [], ◌∷◌, ◌++◌, length, take, drop, true, false, refl, sym, ap, ◌∙◌, arith, inl, inr, ◌⊎◌, length-append, length-take, length-drop, Some}
use Rattle.std.specs.Str.{bytes_eq}
use Rattle.std.proofs.Math.Nat.{pow-suc}
use Rattle.std.proofs.lemmas.Slice.Eq.{bytes_eq-Decides}
use Rattle.std.proofs.lemmas.Bool.Decides.{Decides-and, Decides-not}
use Rattle.std.proofs.lemmas.Bool.{cases_Bool, cases_lt, le-ltb, lt-ltb}
use Rattle.std.proofs.lemmas.List.{take_at, drop_at, take-append-drop}
use Rattle.merkle_tree.proofs.Splits.{tree_high, tree_low}
use Rattle.merkle_tree.proofs.Widths.{Wide, tree_wide, wide_front, wide_rest}
use Rattle.merkle_tree.specs.Binding.{top_input, tree_pairs}
use Rattle.merkle_tree.specs.Clashes.{Inputs, first_clash, is_clash}
use Rattle.merkle_tree.specs.Tree.{node_hash, pair_input, tree_within}
use Rattle.merkle_tree.specs.Hashes.{HashFunction, HasDigests}

-- some pair of inputs clashes
abbrev pub Found : (H : HashFunction) → List Inputs → Type 0
Found H ps = (p : Inputs) × (first_clash H ps ≡ Some p)

pub found_here : (H : HashFunction) (p : Inputs) (ps : List Inputs) → is_clash H p ≡ true → Found H (p ∷ ps)
unfolding first_clash
found_here H p ps here = (p, rw here refl)

pub found_later : (H : HashFunction) (p : Inputs) (ps : List Inputs) → Found H ps → Found H (p ∷ ps)
unfolding first_clash
found_later H p ps f = elim (cases_Bool (is_clash H p)) [
  | inl here ↦ (p, rw here refl)
  | inr past ↦ (f.0, rw past f.1)
]

pub found_front : (H : HashFunction) (ps qs : List Inputs) → Found H ps → Found H (ps ++ qs)
unfolding first_clash
found_front H [] qs f = absurd (cc f.1)
found_front H (p ∷ ps) qs f = elim (cases_Bool (is_clash H p)) [
  | inl here ↦ found_here H p (ps ++ qs) here
  | inr past ↦ found_later H p (ps ++ qs) (found_front H ps qs (f.0, rw past at f.1))
]

pub found_rest : (H : HashFunction) (ps qs : List Inputs) → Found H qs → Found H (ps ++ qs)
found_rest H [] qs f = f
found_rest H (p ∷ ps) qs f = found_later H p (ps ++ qs) (found_rest H ps qs f)

-- two inputs are the same, or differ
same_or_not : (x y : List ℕ) → (x ≡ y) ⊎ (bytes_eq x y ≡ false)
same_or_not x y = elim (cases_Bool (bytes_eq x y)) [
  | inl equal ↦ inl ((bytes_eq-Decides x y).0 equal)
  | inr differ ↦ inr differ
]

-- inputs with one digest are the same, or clash
pub inputs_bind : (H : HashFunction) (x y : List ℕ) → H x ≡ H y → (x ≡ y) ⊎ (is_clash H (record { first = x; second = y }) ≡ true)
inputs_bind H x y digests = elim (same_or_not x y) [
  | inl equal ↦ inl equal
  | inr differ ↦ inr (rw (differ, (bytes_eq-Decides (H x) (H y)).1 digests) refl)
]

-- joined lists that are equal, of which the parts on one side are as long, have equal parts
pub same_parts : (e x f y : List ℕ) → length e ≡ length f → e ++ x ≡ f ++ y → (e ≡ f) × (x ≡ y)
same_parts e x f y size same =
    let front : take (length f) (e ++ x) ≡ e = take_at e x (length f) size in
    let rest : drop (length f) (e ++ x) ≡ x = drop_at e x (length f) size in
    (sym front ∙ ap (take (length f)) same ∙ take_at f y (length f) refl, sym rest ∙ ap (drop (length f)) same ∙ drop_at f y (length f) refl)

pub same_parts_back : (e x f y : List ℕ) → length x ≡ length y → e ++ x ≡ f ++ y → (e ≡ f) × (x ≡ y)
same_parts_back e x f y size same =
    let whole : length e + length x ≡ length f + length y = sym (length-append e x) ∙ ap length same ∙ length-append f y in
    same_parts e x f y (omega arith) same

-- nodes with one digest are over the same digests, or their inputs clash
pub nodes_bind : (H : HashFunction) (x y a b : List ℕ) → length x ≡ length a → node_hash H x y ≡ node_hash H a b
    → ((x ≡ a) × (y ≡ b)) ⊎ (is_clash H (record { first = pair_input x y; second = pair_input a b }) ≡ true)
nodes_bind H x y a b size digests = elim (inputs_bind H (pair_input x y) (pair_input a b) digests) [
  | inl equal ↦ (let body : x ++ y ≡ a ++ b = ap (drop 1) equal in inl (same_parts x y a b size body))
  | inr clash ↦ inr clash
]

pub nodes_bind_back : (H : HashFunction) (x y a b : List ℕ) → length y ≡ length b → node_hash H x y ≡ node_hash H a b
    → ((x ≡ a) × (y ≡ b)) ⊎ (is_clash H (record { first = pair_input x y; second = pair_input a b }) ≡ true)
nodes_bind_back H x y a b size digests = elim (inputs_bind H (pair_input x y) (pair_input a b) digests) [
  | inl equal ↦ (let body : x ++ y ≡ a ++ b = ap (drop 1) equal in inl (same_parts_back x y a b size body))
  | inr clash ↦ inr clash
]

pub pairs_high : (H : HashFunction) (z : ℕ) (p q : List (List ℕ)) → 2 ^ z < length q
    → tree_pairs H (suc z) p q ≡ record { first = top_input H z p; second = top_input H z q } ∷ tree_pairs H z (take (2 ^ z) p) (take (2 ^ z) q) ++ tree_pairs H z (drop (2 ^ z) p) (drop (2 ^ z) q)
unfolding tree_pairs
pairs_high H z p q h = rw (lt-ltb (2 ^ z) (length q) h) refl

pub pairs_low : (H : HashFunction) (z : ℕ) (p q : List (List ℕ)) → length q ≤ 2 ^ z → tree_pairs H (suc z) p q ≡ tree_pairs H z p q
unfolding tree_pairs
pairs_low H z p q h = rw (le-ltb (2 ^ z) (length q) h) refl

-- a list is its front and its rest
pub joined : (k : ℕ) (p q : List (List ℕ)) → take k p ≡ take k q → drop k p ≡ drop k q → p ≡ q
joined k p q front rest = sym (take-append-drop k p) ∙ rw (front, rest) (take-append-drop k q)

-- digests under one root are the same, or clash
pub trees_bind : (H : HashFunction) (sized : HasDigests H) (z : ℕ) (p q : List (List ℕ)) → length p ≡ length q → 0 < length q → length q ≤ 2 ^ z → Wide p → Wide q
    → tree_within H z p ≡ tree_within H z q → (p ≡ q) ⊎ Found H (tree_pairs H z p q)
unfolding tree_within
trees_bind H sized zero [] q size some few wp wq roots = absurd (omega arith)
trees_bind H sized zero (x ∷ p) [] size some few wp wq roots = absurd (omega arith)
trees_bind H sized zero (x ∷ []) (y ∷ []) size some few wp wq roots = inl (ap (λ (d : List ℕ). d ∷ []) roots)
trees_bind H sized zero (x ∷ w ∷ p) (y ∷ q) size some few wp wq roots = absurd (omega arith)
trees_bind H sized zero (x ∷ []) (y ∷ w ∷ q) size some few wp wq roots = absurd (omega arith)
trees_bind H sized (suc z) p q size some few wp wq roots =
    let s = 2 ^ z in
    let twice : 2 ^ suc z ≡ 2 * s = pow-suc 2 z ∙ omega arith in
    elim (cases_lt s (length q)) [
      | inl high ↦ (let high_p : s < length p = omega arith in
          let nodes : node_hash H (tree_within H z (take s p)) (tree_within H z (drop s p)) ≡ node_hash H (tree_within H z (take s q)) (tree_within H z (drop s q))
          = sym (tree_high H z p high_p) ∙ roots ∙ tree_high H z q high in
          let front_p : length (take s p) ≡ s = omega (arith, length-take s p) in
          let front_q : length (take s q) ≡ s = omega (arith, length-take s q) in
          let rest_p : length (drop s p) ≡ length p - s = length-drop s p in
          let rest_q : length (drop s q) ≡ length q - s = length-drop s q in
          let wide_p : length (tree_within H z (drop s p)) ≡ 32 = tree_wide H sized z (drop s p) (omega arith) (omega arith) (wide_rest s p wp) in
          let wide_q : length (tree_within H z (drop s q)) ≡ 32 = tree_wide H sized z (drop s q) (omega arith) (omega arith) (wide_rest s q wq) in
          rw (pairs_high H z p q high) (elim (nodes_bind_back H _ _ _ _ (wide_p ∙ sym wide_q) nodes) [
            | inr clash ↦ inr (found_here H _ _ clash)
            | inl same ↦ elim (trees_bind H sized z (take s p) (take s q) (front_p ∙ sym front_q) (omega arith) (omega arith) (wide_front s p wp) (wide_front s q wq) same.0) [
              | inr found ↦ inr (found_later H _ _ (found_front H _ _ found))
              | inl fronts ↦ elim (trees_bind H sized z (drop s p) (drop s q) (omega arith) (omega arith) (omega arith) (wide_rest s p wp) (wide_rest s q wq) same.1) [
                | inr found ↦ inr (found_later H _ _ (found_rest H _ _ found))
                | inl rests ↦ inl (joined s p q fronts rests)
              ]
            ]
          ]))
      | inr low ↦ rw (pairs_low H z p q low) (trees_bind H sized z p q size some low wp wq (sym (tree_low H z p (omega arith)) ∙ roots ∙ tree_low H z q low))
    ]

-- what a clash is
pub clash_is : (H : HashFunction) (p : Inputs) → is_clash H p ≡ true → (p.first ≢ p.second) × (H p.first ≡ H p.second)
clash_is H p holds = (Decides-and _ _ (Decides-not _ (bytes_eq-Decides p.first p.second)) (bytes_eq-Decides (H p.first) (H p.second))).0 holds

-- the first clash is one
pub first_is : (H : HashFunction) (ps : List Inputs) (c : Inputs) → first_clash H ps ≡ Some c → is_clash H c ≡ true
unfolding first_clash
first_is H [] c is = absurd (cc)
first_is H (p ∷ ps) c is = elim (cases_Bool (is_clash H p)) [
  | inl here ↦ (let this : Some p ≡ Some c = rw here at is in let one : p ≡ c = cc in rw (← one) here)
  | inr past ↦ first_is H ps c (rw past at is)
]
