-- Ways up to one root, from different leaves by paths of one shape, clash at a height.
use Rattle.std.proofs.Common.{◌≡◌, ◌≢◌, ℕ, suc, ◌+◌, List, [], ◌∷◌, length, drop, Bool, true, false, refl, sym, ap, ◌∙◌, arith, inl, inr, ◌⊎◌, Some}
use Rattle.std.specs.Str.{bytes_eq}
use Rattle.std.proofs.lemmas.Slice.Eq.{bytes_eq-Decides}
use Rattle.std.proofs.lemmas.Bool.{cases_Bool, false_from_ne_true}
use Rattle.merkle_tree.proofs.Included.{same_node}
use Rattle.merkle_tree.proofs.Widths.{Wide}
use Rattle.merkle_tree.specs.Climb.{climb_along, node_input, inputs_along, path_inputs, path_sides}
use Rattle.merkle_tree.specs.Clashes.{clash_place, clashes}
use Rattle.merkle_tree.specs.Hashes.{HashFunction}
use Rattle.merkle_tree.specs.Tree.{leaf_hash}

-- two lists of inputs clash at a place
abbrev pub HasPlace : HashFunction → List (List ℕ) → List (List ℕ) → Type 0
HasPlace H xs ys = (h : ℕ) × (clash_place H xs ys ≡ Some h)

same_or_not : (x y : List ℕ) → (x ≡ y) ⊎ (bytes_eq x y ≡ false)
same_or_not x y = elim (cases_Bool (bytes_eq x y)) [
  | inl equal ↦ inl ((bytes_eq-Decides x y).0 equal)
  | inr differ ↦ inr differ
]

place_here : (H : HashFunction) (x y : List ℕ) (xs ys : List (List ℕ)) → bytes_eq x y ≡ false → H x ≡ H y → HasPlace H (x ∷ xs) (y ∷ ys)
unfolding clash_place
place_here H x y xs ys h k = (0, rw (h, (bytes_eq-Decides (H x) (H y)).1 k) refl)

place_later : (H : HashFunction) (x y : List ℕ) (xs ys : List (List ℕ)) → HasPlace H xs ys → HasPlace H (x ∷ xs) (y ∷ ys)
unfolding clash_place
place_later H x y xs ys f = elim (cases_Bool (clashes H x y)) [
  | inl here ↦ (0, rw here refl)
  | inr past ↦ (f.0 + 1, rw (past, f.1) refl)
]

ways_bound : (H : HashFunction) (x y : List ℕ) (sides : List Bool) (p r : List (List ℕ)) → length p ≡ length sides → length r ≡ length sides
    → Wide p → Wide r → climb_along H x sides p ≡ climb_along H y sides r
    → (x ≡ y) ⊎ HasPlace H (inputs_along H x sides p) (inputs_along H y sides r)
unfolding climb_along inputs_along
ways_bound H x y [] p r lp lr wp wr same = inl same
ways_bound H x y (b ∷ sides) [] r lp lr wp wr same = absurd (omega arith)
ways_bound H x y (b ∷ sides) (e ∷ p) [] lp lr wp wr same = absurd (omega arith)
ways_bound H x y (b ∷ sides) (e ∷ p) (f ∷ r) lp lr wp wr same =
    let above = ways_bound H (H (node_input b x e)) (H (node_input b y f)) sides p r (omega arith) (omega arith) (λ k d h. wp (suc k) d (omega arith)) (λ k d h. wr (suc k) d (omega arith)) same in
    let le : length e ≡ 32 = wp 0 [] (omega arith) in
    let lf : length f ≡ 32 = wr 0 [] (omega arith) in
    elim above [
      | inl digests ↦ elim (same_or_not (node_input b x e) (node_input b y f)) [
        | inl inputs ↦ inl (same_node b x e y f (le ∙ sym lf) inputs)
        | inr differ ↦ inr (place_here H _ _ _ _ differ digests)
      ]
      | inr found ↦ inr (place_later H _ _ _ _ found)
    ]

-- the same from entries
pub entries_placed : (H : HashFunction) (m o : List ℕ) (i n : ℕ) (p r : List (List ℕ)) → length p ≡ length (path_sides i n) → length r ≡ length (path_sides i n)
    → Wide p → Wide r → climb_along H (leaf_hash H m) (path_sides i n) p ≡ climb_along H (leaf_hash H o) (path_sides i n) r → m ≢ o
    → HasPlace H (path_inputs H m i n p) (path_inputs H o i n r)
entries_placed H m o i n p r lp lr wp wr same differ =
    elim (ways_bound H (leaf_hash H m) (leaf_hash H o) (path_sides i n) p r lp lr wp wr same) [
      | inl leaves ↦ (let apart : bytes_eq (0 ∷ m) (0 ∷ o) ≡ false = false_from_ne_true _ (λ equal. differ (ap (drop 1) ((bytes_eq-Decides (0 ∷ m) (0 ∷ o)).0 equal))) in place_here H _ _ _ _ apart leaves)
      | inr found ↦ place_later H _ _ _ _ found
    ]
