-- A path binds the digest that it leads from.
use Rattle.std.proofs.Common.{◌≡◌, ◌≢◌, ℕ, suc, ◌<◌, List, [], ◌∷◌, ◌++◌, length, get_or, map, drop, Bool, true, false, sym, ap, ◌∙◌, arith, inl, inr, ◌⊎◌, Some}
use Rattle.std.proofs.lemmas.Bool.Decides.{Decides-and, Decides-eqb, Decides-ltb}
use Rattle.std.proofs.lemmas.List.{get_or-map, length-map}
use Rattle.std.proofs.lemmas.Slice.Eq.{bytes_eq-Decides}
use Rattle.merkle_tree.proofs.Binding.{Found, found_here, found_later, inputs_bind, same_parts, same_parts_back}
use Rattle.merkle_tree.proofs.Equations.{leaves_wide}
use Rattle.merkle_tree.proofs.Splits.{climbs_to_tree}
use Rattle.merkle_tree.proofs.Ways.{climb_is_along, enough, length-path}
use Rattle.merkle_tree.proofs.Widths.{Wide, path_wide}
use Rattle.merkle_tree.specs.Binding.{climb_pairs, entry_clash, inclusion_clash, paths_clash}
use Rattle.merkle_tree.specs.Clashes.{Inputs}
use Rattle.merkle_tree.specs.Climb.{climb_along, is_included, node_input, path_climb, path_sides}
use Rattle.merkle_tree.specs.Tree.{inclusion_path, leaf_hash, tree_root}
use Rattle.merkle_tree.specs.Hashes.{HashFunction, HasDigests}

pub path_leads : (H : HashFunction) (i : ℕ) (q : List (List ℕ)) → i < length q → path_climb H (get_or q i []) i (length q) (inclusion_path H q i) ≡ tree_root H q
path_leads H i q h = climbs_to_tree H (length q) i q h (enough (length q))

pub path_length : (H : HashFunction) (i : ℕ) (q : List (List ℕ)) → i < length q → length (inclusion_path H q i) ≡ length (path_sides i (length q))
path_length H i q h = length-path H (length q) q i h (enough (length q))

-- what a path that is checked has
pub record Included (H : HashFunction) (i n : ℕ) (x root : List ℕ) (path : List (List ℕ)) : Type 0 where
  pub inside : i < n
  pub size : length path ≡ length (path_sides i n)
  pub leads : path_climb H x i n path ≡ root

pub is_checked : (H : HashFunction) (i n : ℕ) (x root : List ℕ) (path : List (List ℕ)) → is_included H i n x root path ≡ true → Included H i n x root path
is_checked H i n x root path holds =
    let all = (Decides-and _ _ (Decides-and _ _ (Decides-ltb i n) (Decides-eqb (length path) (length (path_sides i n)))) (bytes_eq-Decides (path_climb H x i n path) root)).0 holds in
    record { inside = all.0.0; size = all.0.1; leads = all.1 }

pub path_checks : (H : HashFunction) (i : ℕ) (q : List (List ℕ)) → i < length q → is_included H i (length q) (get_or q i []) (tree_root H q) (inclusion_path H q i) ≡ true
path_checks H i q h =
    (Decides-and _ _ (Decides-and _ _ (Decides-ltb i (length q)) (Decides-eqb (length (inclusion_path H q i)) (length (path_sides i (length q))))) (bytes_eq-Decides (path_climb H (get_or q i []) i (length q) (inclusion_path H q i)) (tree_root H q))).1
    ((h, path_length H i q h), path_leads H i q h)

pub same_node : (side : Bool) (x e y f : List ℕ) → length e ≡ length f → node_input side x e ≡ node_input side y f → x ≡ y
same_node true x e y f size same = let body : e ++ x ≡ f ++ y = ap (drop 1) same in (same_parts e x f y size body).1
same_node false x e y f size same = let body : x ++ e ≡ y ++ f = ap (drop 1) same in (same_parts_back x e y f size body).0

-- ways up to one root along the same sides begin at one digest, or clash
pub climbs_bind : (H : HashFunction) (x y : List ℕ) (sides : List Bool) (p r : List (List ℕ)) → length p ≡ length sides → length r ≡ length sides → Wide p → Wide r
    → climb_along H x sides p ≡ climb_along H y sides r → (x ≡ y) ⊎ Found H (climb_pairs H x y sides p r)
unfolding climb_along climb_pairs
climbs_bind H x y [] p r lp lr wp wr same = inl same
climbs_bind H x y (b ∷ sides) [] r lp lr wp wr same = absurd (omega arith)
climbs_bind H x y (b ∷ sides) (e ∷ p) [] lp lr wp wr same = absurd (omega arith)
climbs_bind H x y (b ∷ sides) (e ∷ p) (f ∷ r) lp lr wp wr same =
    let above = climbs_bind H (H (node_input b x e)) (H (node_input b y f)) sides p r (omega arith) (omega arith) (λ k d h. wp (suc k) d (omega arith)) (λ k d h. wr (suc k) d (omega arith)) same in
    let le : length e ≡ 32 = wp 0 [] (omega arith) in
    let lf : length f ≡ 32 = wr 0 [] (omega arith) in
    elim above [
      | inr found ↦ inr (found_later H _ _ found)
      | inl digests ↦ elim (inputs_bind H (node_input b x e) (node_input b y f) digests) [
        | inl inputs ↦ inl (same_node b x e y f (le ∙ sym lf) inputs)
        | inr clash ↦ inr (found_here H _ _ clash)
      ]
    ]

bind : (H : HashFunction) (i n : ℕ) (x y root : List ℕ) (p r : List (List ℕ)) → Wide p → Wide r → Included H i n x root p → Included H i n y root r
    → (x ≡ y) ⊎ Found H (climb_pairs H x y (path_sides i n) p r)
bind H i n x y root p r wp wr a b =
    climbs_bind H x y (path_sides i n) p r a.size b.size wp wr
    (sym (climb_is_along H n x i n p a.inside (enough n) a.size) ∙ a.leads ∙ sym b.leads ∙ climb_is_along H n y i n r b.inside (enough n) b.size)

pub paths_bound : (H : HashFunction) (i n : ℕ) (x y root : List ℕ) (p r : List (List ℕ)) → Wide p → Wide r → is_included H i n x root p ≡ true → is_included H i n y root r ≡ true
    → x ≢ y → (c : Inputs) × (paths_clash H i n x y p r ≡ Some c)
paths_bound H i n x y root p r wp wr a b differ = elim (bind H i n x y root p r wp wr (is_checked H i n x root p a) (is_checked H i n y root r b)) [
  | inl same ↦ absurd (differ same)
  | inr found ↦ found
]

-- against the path of the digest itself
bind_to : (H : HashFunction) (sized : HasDigests H) (i : ℕ) (q : List (List ℕ)) (x : List ℕ) (path : List (List ℕ)) → Wide q → Wide path → Included H i (length q) x (tree_root H q) path
    → (x ≡ get_or q i []) ⊎ Found H (climb_pairs H x (get_or q i []) (path_sides i (length q)) path (inclusion_path H q i))
bind_to H sized i q x path wq wp a =
    bind H i (length q) x (get_or q i []) (tree_root H q) path (inclusion_path H q i) wp (path_wide H sized (length q) q i a.inside (enough (length q)) wq) a
    (record { inside = a.inside; size = path_length H i q a.inside; leads = path_leads H i q a.inside })

pub inclusion_bound : (H : HashFunction) (sized : HasDigests H) (i : ℕ) (q : List (List ℕ)) (x : List ℕ) (path : List (List ℕ)) → Wide q → Wide path → is_included H i (length q) x (tree_root H q) path ≡ true
    → x ≢ get_or q i [] → (c : Inputs) × (inclusion_clash H q i x path ≡ Some c)
inclusion_bound H sized i q x path wq wp holds differ = elim (bind_to H sized i q x path wq wp (is_checked H i (length q) x (tree_root H q) path holds)) [
  | inl same ↦ absurd (differ same)
  | inr found ↦ found
]

pub entry_bound : (H : HashFunction) (sized : HasDigests H) (i : ℕ) (a : List (List ℕ)) (m : List ℕ) (path : List (List ℕ)) → Wide path → is_included H i (length a) (leaf_hash H m) (tree_root H (map (leaf_hash H) a)) path ≡ true
    → m ≢ get_or a i [] → (c : Inputs) × (entry_clash H a i m path ≡ Some c)
entry_bound H sized i a m path wp holds differ =
    let q = map (leaf_hash H) a in
    let size : length q ≡ length a = length-map a (leaf_hash H) in
    let in_q : is_included H i (length q) (leaf_hash H m) (tree_root H q) path ≡ true = ap (λ n. is_included H i n (leaf_hash H m) (tree_root H q) path) size ∙ holds in
    let checked = is_checked H i (length q) (leaf_hash H m) (tree_root H q) path in_q in
    elim (bind_to H sized i q (leaf_hash H m) path (leaves_wide H sized a) wp checked) [
      | inr found ↦ found_later H _ _ found
      | inl digests ↦ (let leaf : leaf_hash H m ≡ leaf_hash H (get_or a i []) = digests ∙ get_or-map (leaf_hash H) a i [] [] (omega (arith, checked.inside)) in
          elim (inputs_bind H (0 ∷ m) (0 ∷ get_or a i []) leaf) [
            | inl inputs ↦ absurd (differ (ap (drop 1) inputs))
            | inr clash ↦ found_here H _ _ clash
          ])
    ]
