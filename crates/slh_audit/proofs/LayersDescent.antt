-- All layers, from the top one down.
use Rattle.std.proofs.Common.{◌≡◌, ◌⊎◌, inl, inr, ℕ, zero, suc, ◌+◌, ◌*◌, ◌/◌, ◌%◌, ◌^◌, ◌<◌, ◌≤◌, ◌==◌, if◌then◌else◌, Bool, true, false, List, length, arith}
use Rattle.std.proofs.lemmas.Bool.{cases_lt}
use Rattle.std.proofs.lemmas.Nat.{mod_below, pow_pos}
use Rattle.slh_audit.proofs.LayerDescent.{IsValue, Finds, layer_down}
use Rattle.slh_audit.proofs.Pieces.{length-part}
use Rattle.slh_core.specs.Bytes.{part}
use Rattle.slh_core.specs.Suite.{HasLength, HasBytes, Seeded}
use Rattle.slh_core.specs.Wots.{wots_pk}
use Rattle.slh_merkle.proofs.Layers.{part_fits}
use Rattle.slh_merkle.specs.Checking.{checked_message, checked_node}
use Rattle.slh_merkle.specs.Hypertree.{layer_message, layer_signature, layer_size, leaf_at, tree_at}
use Rattle.slh_merkle.specs.Merkle.{Place, climb, merkle, node_bytes}
use Rattle.slh_merkle.specs.Xmss.{tree_place}

value-h : (K : Seeded) (a l r : List ℕ) → HasLength K.suite K.n → HasBytes K.suite → IsValue K.n (K.suite.h K.seed a l r)
value-h K a l r law bytes = record { len = law.h K.seed a l r; bytes = bytes.h K.seed a l r }

value-hashed : (K : Seeded) (a l r : List ℕ) (b : Bool) → HasLength K.suite K.n → HasBytes K.suite → IsValue K.n (if b then K.suite.h K.seed a l r else K.suite.h K.seed a r l)
value-hashed K a l r true law bytes = value-h K a l r law bytes
value-hashed K a l r false law bytes = value-h K a r l law bytes

value-climb : (K : Seeded) (B : Place) (x path : List ℕ) (y z : ℕ) → HasLength K.suite K.n → HasBytes K.suite → 1 ≤ z → IsValue K.n (climb K B x y path z)
unfolding climb
value-climb K B x path y zero law bytes low = absurd (omega arith)
value-climb K B x path y (suc z) law bytes low =
    value-hashed K (node_bytes B (suc z) (y / 2 ^ suc z)) (climb K B x y path z) (part K.n path z) (y / 2 ^ z % 2 == 0) law bytes

value-merkle : (K : Seeded) (B : Place) (leaves : ℕ → List ℕ) (z i : ℕ) → HasLength K.suite K.n → HasBytes K.suite → 1 ≤ z → IsValue K.n (merkle K B leaves z i)
unfolding merkle
value-merkle K B leaves zero i law bytes low = absurd (omega arith)
value-merkle K B leaves (suc z) i law bytes low = value-h K (node_bytes B (suc z) i) (merkle K B leaves z (2 * i)) (merkle K B leaves z (2 * i + 1)) law bytes

leaf_at-below : (hp t l j : ℕ) → l < 2 ^ hp → leaf_at hp t l j < 2 ^ hp
leaf_at-below hp t l zero h = h
leaf_at-below hp t l (suc j) h = mod_below (tree_at hp t j) (2 ^ hp) (pow_pos hp)

module _ (K : Seeded) (sk : List ℕ) (hp d t l : ℕ) (layers m own : List ℕ) (law : HasLength K.suite K.n) (bytes : HasBytes K.suite)
    (low : 1 ≤ hp) (value : IsValue K.n m) (own_value : IsValue K.n own) where
  pub checked_value : (j : ℕ) → IsValue K.n (checked_message K hp t l layers m j)
  unfolding checked_message checked_node
  checked_value zero = value
  checked_value (suc j) = value-climb K _ _ _ _ hp law bytes low

  pub message_value : (j : ℕ) → IsValue K.n (layer_message K hp sk t l own j)
  message_value zero = own_value
  message_value (suc j) = value-merkle K (tree_place j (tree_at hp t j)) (wots_pk K sk j (tree_at hp t j)) hp 0 law bytes low

  pub layers_down : (E : Type 0)
      → ((j : ℕ) → j < d → Finds K sk hp j (tree_at hp t j) (leaf_at hp t l j) (part (layer_size K.n hp) layers j) (checked_message K hp t l layers m j) (layer_message K hp sk t l own j) E)
      → K.n ≤ 32 → l < 2 ^ hp → length layers ≡ d * layer_size K.n hp → (j : ℕ) → j ≤ d
      → checked_message K hp t l layers m j ≡ layer_message K hp sk t l own j
      → E ⊎ ((m ≡ own) × ((i : ℕ) → i < j → part (layer_size K.n hp) layers i ≡ layer_signature K hp sk t l own i))
  unfolding checked_message layer_signature
  layers_down E finds small below size zero h e = inr (e, λ i none. absurd (omega arith))
  layers_down E finds small below size (suc j) h e =
      let len = length-part (layer_size K.n hp) j layers (part_fits j d (layer_size K.n hp) (length layers) h size) in
      elim (layer_down K sk hp j (tree_at hp t j) (leaf_at hp t l j) (part (layer_size K.n hp) layers j) (checked_message K hp t l layers m j) (layer_message K hp sk t l own j) E
      law (finds j h) len small (checked_value j) (message_value j) (leaf_at-below hp t l j below) e) [
        | inl found ↦ inl found
        | inr here ↦
            elim (layers_down E finds small below size j (omega arith) here.0) [
              | inl found ↦ inl found
              | inr rest ↦ inr (
                rest.0,
                λ i inside. elim (cases_lt i j) [
                  | inl before ↦ rest.1 i before
                  | inr last ↦ (let same : i ≡ j = omega arith in rw same here.1)
                ],
              )
            ]
      ]
