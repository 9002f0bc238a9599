-- The forest: where its key is the key's own, evidence is found, or the forest's part of the signature
-- is the key's.
use Rattle.std.proofs.Common.{◌≡◌, ◌⊎◌, inl, inr, ℕ, suc, ◌+◌, ◌-◌, ◌*◌, ◌/◌, ◌^◌, ◌<◌, ◌≤◌, List, ◌++◌, length, take, drop, arith, sym, ap, ◌∙◌, length-drop}
use Rattle.std.specs.Prelude.{slice_index}
use Rattle.std.proofs.lemmas.Nat.{div-mul-add}
use Rattle.std.proofs.lemmas.List.{take-append-drop}
use Rattle.slh_audit.proofs.Descent.{climb_down, length-climb}
use Rattle.slh_audit.proofs.Pieces.{same_or_not, found_or_all, same_joined, joined_parts, length-part}
use Rattle.slh_audit.proofs.Meaning.{ForsRootsShows, ForsSecretShows, ForsNodeShows}
use Rattle.slh_core.specs.Bytes.{joined, part}
use Rattle.slh_core.specs.Digits.{digits}
use Rattle.slh_core.specs.Suite.{HasLength, Seeded}
use Rattle.slh_core.proofs.DigitSteps.{digits_below}
use Rattle.slh_core.proofs.Joins.{joined_same}
use Rattle.slh_merkle.proofs.Climbs.{length-merkle}
use Rattle.slh_merkle.proofs.Layers.{part_fits}
use Rattle.slh_merkle.specs.Checking.{fors_pk_from_sig, checked_fors_node, forest_size}
use Rattle.slh_merkle.specs.Fors.{fors_pk, fors_leaf, fors_node, fors_opened, fors_auth_path, fors_place, fors_secret, fors_sig, leaf_index, opened_leaves}
use Rattle.slh_merkle.specs.Merkle.{climb, merkle_auth_path, node_bytes}

length-fors_leaf : (K : Seeded) (sk : List ℕ) (t l i : ℕ) → HasLength K.suite K.n → length (fors_leaf K sk t l i) ≡ K.n
unfolding fors_leaf
length-fors_leaf K sk t l i law = law.f _ _ _

-- what each place of the forest gives, where it shows
pub record FindsBelow (K : Seeded) (sk : List ℕ) (t l a k : ℕ) (sig md : List ℕ) (E : Type 0) : Type 0 where
  pub roots : ForsRootsShows K sk t l a sig (digits md a k) k md → E
  pub secret : (i : ℕ) → i < k → ForsSecretShows K sk t l a sig (digits md a k) i → E
  pub node : (i z : ℕ) → i < k → 1 ≤ z → z ≤ a → ForsNodeShows K sk t l a sig (digits md a k) i z → E

module _ (K : Seeded) (sk : List ℕ) (t l a k : ℕ) (sig md : List ℕ) (E : Type 0)
    (law : HasLength K.suite K.n) (finds : FindsBelow K sk t l a k sig md E) (size : length sig ≡ forest_size K.n k a) where
  length-root : (i : ℕ) → length (checked_fors_node K t l a sig (digits md a k) i a) ≡ K.n
  unfolding checked_fors_node
  length-root i =
      length-climb K (fors_place t l) (K.suite.f K.seed (node_bytes (fors_place t l) 0 (leaf_index a (digits md a k) i)) (take K.n (part ((1 + a) * K.n) sig i))) (drop K.n (part ((1 + a) * K.n) sig i)) (leaf_index a (digits md a k) i) a law (law.f _ _ _)

  -- from the key to the roots
  roots_down : fors_pk_from_sig K t l k a sig md ≡ fors_pk K sk t l k a
      → E ⊎ ((i : ℕ) → i < k → checked_fors_node K t l a sig (digits md a k) i a ≡ fors_node K sk t l a i)
  unfolding ForsRootsShows
  roots_down e =
      let x = digits md a k in
      elim (same_or_not (joined (λ i. checked_fors_node K t l a sig x i a) k) (joined (λ i. fors_node K sk t l a i) k)) [
        | inr differ ↦ inl (finds.roots (differ, e))
        | inl same ↦ inr (same_joined _ _ K.n k
            (λ i below. length-root i)
            (λ i below. length-merkle K (fors_place t l) (fors_leaf K sk t l) a i law (λ c. length-fors_leaf K sk t l c law)) same)
      ]

  -- from a root to what is opened in its tree
  tree_down : (i : ℕ) → i < k → checked_fors_node K t l a sig (digits md a k) i a ≡ fors_node K sk t l a i
      → E ⊎ (part ((1 + a) * K.n) sig i ≡ fors_opened K sk t l a (digits md a k) i)
  unfolding checked_fors_node ForsNodeShows ForsSecretShows fors_opened fors_leaf merkle_auth_path climb
  tree_down i below e =
      let x = digits md a k in
      let y = leaf_index a x i in
      let opened = part ((1 + a) * K.n) sig i in
      let first = take K.n opened in
      let path = drop K.n opened in
      let len : length opened ≡ (1 + a) * K.n = length-part ((1 + a) * K.n) i sig (part_fits i k ((1 + a) * K.n) (length sig) below size) in
      let len_path : length path ≡ a * K.n = omega (arith, length-drop K.n opened) in
      let small : slice_index x i < 2 ^ a = digits_below md a k i below in
      let top : y / 2 ^ a ≡ i = div-mul-add i (2 ^ a) (slice_index x i) small in
      elim (climb_down K (fors_place t l) (fors_leaf K sk t l) (K.suite.f K.seed (node_bytes (fors_place t l) 0 y) first) path y a a law (λ c. length-fors_leaf K sk t l c law) (law.f _ _ _) len_path (omega arith) (rw top e)) [
        | inl found ↦
            (let z = found.0 in
            let last : suc z - 1 ≡ z = omega arith in
            inl (finds.node i (suc z) below (omega arith) (omega (arith, found.1)) (rw last found.2)))
        | inr rest ↦
            elim (same_or_not first (fors_secret K sk t l y)) [
              | inr differ ↦ inl (finds.secret i below (differ, rest.0))
              | inl same ↦
                  (let is_path : path ≡ fors_auth_path K sk t l y a = sym (joined_parts K.n a path len_path) ∙ joined_same _ _ a rest.1 in
                  inr (sym (take-append-drop K.n opened) ∙ ap (λ f. f ++ path) same ∙ ap (λ p. fors_secret K sk t l y ++ p) is_path))
            ]
      ]

  pub forest_down : fors_pk_from_sig K t l k a sig md ≡ fors_pk K sk t l k a → E ⊎ (sig ≡ fors_sig K sk t l k a md)
  unfolding opened_leaves
  forest_down e =
      elim (roots_down e) [
        | inl found ↦ inl found
        | inr roots ↦
            elim (found_or_all E _ k (λ i below. tree_down i below (roots i below))) [
              | inl found ↦ inl found
              | inr opened ↦ inr (sym (joined_parts ((1 + a) * K.n) k sig size) ∙ joined_same _ _ k opened)
            ]
      ]
