-- A step of two ways up that are compared.
use Rattle.std.proofs.Common.{◌≡◌, ℕ, ◌+◌, ◌<◌, ◌≤◌, List, [], ◌∷◌, ◌++◌, length, drop, get_or, Bool, true, false, Option, Some, None, ◌&&◌, refl, ap, ◌∙◌, arith}
use Rattle.std.specs.Str.{bytes_eq}
use Rattle.std.proofs.lemmas.List.{drop_all, drop_more}
use Rattle.std.proofs.lemmas.Bool.Decides.{Decides-and, Decides-like, same_from_decides}
use Rattle.std.proofs.lemmas.Slice.Eq.{bytes_eq-Decides}
use Rattle.merkle_tree.proofs.Binding.{same_parts}
use Rattle.merkle_tree.specs.Binding.{climb_pairs}
use Rattle.merkle_tree.specs.Clashes.{Inputs, clash_place, clashes, first_clash, is_clash, raised}
use Rattle.merkle_tree.specs.Climb.{inputs_along, node_input}
use Rattle.merkle_tree.specs.Hashes.{HashFunction}
use Rattle.merkle_tree.specs.Tree.{pair_input}

-- inputs of nodes are equal where both digests are
pub same_inputs : (x y u v : List ℕ) → length x ≡ length u → bytes_eq (pair_input x y) (pair_input u v) ≡ (bytes_eq x u && bytes_eq y v)
same_inputs x y u v size =
    same_from_decides _ _
    (bytes_eq-Decides (pair_input x y) (pair_input u v))
    (Decides-like _ (λ both. ap (λ a. pair_input a y) both.0 ∙ ap (pair_input u) both.1) (λ same. same_parts x y u v size (ap (drop 1) same))
    (Decides-and _ _ (bytes_eq-Decides x u) (bytes_eq-Decides y v)))

-- a height above a node of height h, counted from the leaf
abbrev pub raised_by : ℕ → Option ℕ → Option ℕ
raised_by h None = None
raised_by h (Some k) = Some (k + h)

raised_more : (h : ℕ) (o : Option ℕ) → raised_by h (raised o) ≡ raised_by (h + 1) o
raised_more h None = refl
raised_more h (Some k) = ap (λ (n : ℕ). Some n) (omega arith)

-- the input above a node at place h
abbrev pub input_at : List Bool → List (List ℕ) → ℕ → List ℕ → List ℕ
input_at sides path h x = node_input (get_or sides h false) x (get_or path h [])

inputs_step : (H : HashFunction) (x : List ℕ) (sides : List Bool) (path : List (List ℕ)) (h : ℕ) → h < length sides → h < length path
    → inputs_along H x (drop h sides) (drop h path)
    ≡ input_at sides path h x ∷ inputs_along H (H (input_at sides path h x)) (drop (h + 1) sides) (drop (h + 1) path)
unfolding inputs_along
inputs_step H x sides path h below inside = rw (drop_more sides h false below, drop_more path h [] inside) refl

pairs_step : (H : HashFunction) (x y : List ℕ) (sides : List Bool) (p r : List (List ℕ)) (h : ℕ) → h < length sides → h < length p → h < length r
    → climb_pairs H x y (drop h sides) (drop h p) (drop h r)
    ≡ record { first = input_at sides p h x; second = input_at sides r h y }
    ∷ climb_pairs H (H (input_at sides p h x)) (H (input_at sides r h y)) (drop (h + 1) sides) (drop (h + 1) p) (drop (h + 1) r)
unfolding climb_pairs
pairs_step H x y sides p r h below in_p in_r = rw (drop_more sides h false below, drop_more p h [] in_p, drop_more r h [] in_r) refl

-- the least clash from place h on
abbrev pub place_from : HashFunction → List ℕ → List ℕ → List Bool → List (List ℕ) → List (List ℕ) → ℕ → Option ℕ
place_from H x y sides p r h =
    raised_by h (clash_place H (inputs_along H x (drop h sides) (drop h p)) (inputs_along H y (drop h sides) (drop h r)))

abbrev pub clash_from : HashFunction → List ℕ → List ℕ → List Bool → List (List ℕ) → List (List ℕ) → ℕ → Option Inputs
clash_from H x y sides p r h = first_clash H (climb_pairs H x y (drop h sides) (drop h p) (drop h r))

pub place_start : (H : HashFunction) (x y : List ℕ) (sides : List Bool) (p r : List (List ℕ)) → place_from H x y sides p r 0 ≡ clash_place H (inputs_along H x sides p) (inputs_along H y sides r)
place_start H x y sides p r = not_raised (clash_place H (inputs_along H x sides p) (inputs_along H y sides r))
  where
    not_raised : (o : Option ℕ) → raised_by 0 o ≡ o
    not_raised None = refl
    not_raised (Some k) = ap (λ (n : ℕ). Some n) (omega arith)

pub place_here : (H : HashFunction) (x y : List ℕ) (sides : List Bool) (p r : List (List ℕ)) (h : ℕ) → h < length sides → h < length p → h < length r
    → clashes H (input_at sides p h x) (input_at sides r h y) ≡ true → place_from H x y sides p r h ≡ Some h
unfolding clash_place
place_here H x y sides p r h below in_p in_r here =
    rw (inputs_step H x sides p h below in_p, inputs_step H y sides r h below in_r, here) (ap (λ (n : ℕ). Some n) (omega arith))

pub place_step : (H : HashFunction) (x y : List ℕ) (sides : List Bool) (p r : List (List ℕ)) (h : ℕ) → h < length sides → h < length p → h < length r
    → clashes H (input_at sides p h x) (input_at sides r h y) ≡ false
    → place_from H x y sides p r h ≡ place_from H (H (input_at sides p h x)) (H (input_at sides r h y)) sides p r (h + 1)
unfolding clash_place
place_step H x y sides p r h below in_p in_r none =
    rw (inputs_step H x sides p h below in_p, inputs_step H y sides r h below in_r, none) (raised_more h _)

pub place_end : (H : HashFunction) (x y : List ℕ) (sides : List Bool) (p r : List (List ℕ)) (h : ℕ) → length sides ≤ h → place_from H x y sides p r h ≡ None
unfolding clash_place inputs_along
place_end H x y sides p r h past = rw (drop_all h sides past) refl

pub clash_here : (H : HashFunction) (x y : List ℕ) (sides : List Bool) (p r : List (List ℕ)) (h : ℕ) → h < length sides → h < length p → h < length r
    → clashes H (input_at sides p h x) (input_at sides r h y) ≡ true
    → clash_from H x y sides p r h ≡ Some (record { first = input_at sides p h x; second = input_at sides r h y })
unfolding first_clash
clash_here H x y sides p r h below in_p in_r here = rw (pairs_step H x y sides p r h below in_p in_r, here) refl

pub clash_step : (H : HashFunction) (x y : List ℕ) (sides : List Bool) (p r : List (List ℕ)) (h : ℕ) → h < length sides → h < length p → h < length r
    → clashes H (input_at sides p h x) (input_at sides r h y) ≡ false
    → clash_from H x y sides p r h ≡ clash_from H (H (input_at sides p h x)) (H (input_at sides r h y)) sides p r (h + 1)
unfolding first_clash
clash_step H x y sides p r h below in_p in_r none = rw (pairs_step H x y sides p r h below in_p in_r, none) refl

pub clash_end : (H : HashFunction) (x y : List ℕ) (sides : List Bool) (p r : List (List ℕ)) (h : ℕ) → length sides ≤ h → clash_from H x y sides p r h ≡ None
unfolding first_clash climb_pairs
clash_end H x y sides p r h past = rw (drop_all h sides past) refl
