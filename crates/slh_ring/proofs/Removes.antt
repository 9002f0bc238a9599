-- What taking a path out makes of the set.
use Rattle.std.proofs.Common.{◌≡◌, ℕ, ◌≤◌, suc, List, [], ◌∷◌, length, Bool, true, false, ◌&&◌, ◌||◌, cond, not, refl, sym, ◌∙◌, ap, arith}
use Rattle.std.specs.Bool.{Decides}
use Rattle.std.specs.List.{AllByRecursion}
use Rattle.std.specs.List.Sorted.{IsStrictlySortedBy}
use Rattle.std.specs.Ordering.{is_eq}
use Rattle.std.specs.declared.cmp.Ordering.TheVariants.{Less}
use Rattle.std.proofs.lemmas.Map.Text.{is_eq-slice_cmp}
use Rattle.std.proofs.lemmas.Map.Views.{All-remove_key}
use Rattle.std.proofs.lemmas.Slice.Eq.{bytes_eq-Decides}
use Rattle.slh_ring.proofs.Scans.{false_from}
use Rattle.slh_ring.specs.Paths.{IsPath}
use Rattle.slh_ring.specs.Rings.{IsKept, IsRing, has_path, path_cmp, same_path, without_path}

decided : (p q : List ℕ) → Decides (same_path p q) (p ≡ q)
decided p q = rw (is_eq-slice_cmp p q) (bytes_eq-Decides p q)

-- a path below others is none of them
absent : (x : List ℕ) (ys : List (List ℕ)) → AllByRecursion (λ y. path_cmp x y ≡ Less) ys → has_path ys x ≡ false
absent x [] above = refl
absent x (y ∷ ys) above = ap (λ o. is_eq o || has_path ys x) above.0 ∙ absent x ys above.1

above_still : (x p : List ℕ) (ys : List (List ℕ)) → AllByRecursion (λ y. path_cmp x y ≡ Less) ys → AllByRecursion (λ y. path_cmp x y ≡ Less) (without_path ys p)
above_still x p [] above = tt
above_still x p (y ∷ ys) above =
    elim (same_path p y) as (λ here. AllByRecursion (λ y. path_cmp x y ≡ Less) (cond here ys (y ∷ without_path ys p))) [
      | true ↦ above.1
      | false ↦ (above.0, above_still x p ys above.1)
    ]

sorted_without : (p : List ℕ) (xs : List (List ℕ)) → IsStrictlySortedBy path_cmp xs → IsStrictlySortedBy path_cmp (without_path xs p)
unfolding IsStrictlySortedBy
sorted_without p [] sorted = tt
sorted_without p (x ∷ xs) sorted =
    elim (same_path p x) as (λ here. IsStrictlySortedBy path_cmp (cond here xs (x ∷ without_path xs p))) [
      | true ↦ sorted.1
      | false ↦ (above_still x p xs sorted.0, sorted_without p xs sorted.1)
    ]

length_without : (p : List ℕ) (xs : List (List ℕ)) → length (without_path xs p) ≤ length xs
length_without p [] = omega arith
length_without p (x ∷ xs) =
    elim (same_path p x) as (λ here. length (cond here xs (x ∷ without_path xs p)) ≤ suc (length xs)) [
      | true ↦ omega arith
      | false ↦ omega (arith, length_without p xs)
    ]

pub kept_without : (paths : List (List ℕ)) (p : List ℕ) → IsKept paths → IsKept (without_path paths p)
kept_without paths p kept = record {
  few = omega (arith, length_without p paths, kept.few);
  each = All-remove_key (same_path p) IsPath paths kept.each;
}

pub ring_without : (paths : List (List ℕ)) (p : List ℕ) → IsRing paths → IsRing (without_path paths p)
ring_without paths p ring = record {
  few = omega (arith, length_without p paths, ring.few);
  each = All-remove_key (same_path p) IsPath paths ring.each;
  rising = sorted_without p paths ring.rising;
}

-- the path that is taken out was there once
here_case : (p q x : List ℕ) (xs : List (List ℕ)) → p ≡ x → AllByRecursion (λ y. path_cmp x y ≡ Less) xs
    → (same : Bool) → same_path p q ≡ same → has_path xs q ≡ (not same && (same_path q x || has_path xs q))
here_case p q x xs is above true same =
    let q_is : q ≡ x = sym ((decided p q).0 same) ∙ is in
    ap (has_path xs) q_is ∙ absent x xs above
here_case p q x xs is above false other =
    let apart : same_path q x ≡ false = false_from (same_path q x) (λ same. let p_is : p ≡ q = is ∙ sym ((decided q x).0 same) in sym other ∙ (decided p q).1 p_is) in
    ap (λ b. b || has_path xs q) (sym apart)

-- or it stands further on
later_case : (p q x : List ℕ) (xs : List (List ℕ)) → same_path p x ≡ false → has_path (without_path xs p) q ≡ (not (same_path p q) && has_path xs q)
    → (first : Bool) → same_path q x ≡ first → (first || has_path (without_path xs p) q) ≡ (not (same_path p q) && (first || has_path xs q))
later_case p q x xs other later true same =
    let q_is : q ≡ x = (decided q x).0 same in
    let apart : same_path p q ≡ false = ap (same_path p) q_is ∙ other in
    ap (λ b. not b && true) (sym apart)
later_case p q x xs other later false apart = later

removed_case : (p q x : List ℕ) (xs : List (List ℕ)) (here : Bool) → same_path p x ≡ here → AllByRecursion (λ y. path_cmp x y ≡ Less) xs
    → has_path (without_path xs p) q ≡ (not (same_path p q) && has_path xs q)
    → has_path (cond here xs (x ∷ without_path xs p)) q ≡ (not (same_path p q) && has_path (x ∷ xs) q)
removed_case p q x xs true here above later = here_case p q x xs ((decided p x).0 here) above (same_path p q) refl
removed_case p q x xs false here above later = later_case p q x xs here later (same_path q x) refl

none_either : (b : Bool) → false ≡ (b && false)
none_either true = refl
none_either false = refl

members_without : (p q : List ℕ) (xs : List (List ℕ)) → IsStrictlySortedBy path_cmp xs → has_path (without_path xs p) q ≡ (not (same_path p q) && has_path xs q)
unfolding IsStrictlySortedBy
members_without p q [] sorted = none_either (not (same_path p q))
members_without p q (x ∷ xs) sorted = removed_case p q x xs (same_path p x) refl sorted.0 (members_without p q xs sorted.1)

pub members_left : (paths : List (List ℕ)) (path q : List ℕ) → IsRing paths → has_path (without_path paths path) q ≡ (not (same_path path q) && has_path paths q)
members_left paths path q ring = members_without path q paths ring.rising
