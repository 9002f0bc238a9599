-- What calls answer of a layer, of values that are computed somehow.
use Rattle.std.proofs.Common.{◌≡◌, ◌↔◌, ℕ, ◌+◌, ◌-◌, ◌*◌, ◌/◌, ◌^◌, ◌<◌, ◌≤◌, Bool, IsTrue, true, false, List, length, take, drop, Option, None, Some, sym, ◌∙◌, refl, add-one}
use Rattle.std.specs.List.{find}
use Rattle.std.specs.Prelude.{is_some}
use Rattle.slh_audit.proofs.Finding.{after_half, after_some, head_found, head_not}
use Rattle.slh_audit.proofs.Meaning.{IsShown, TreeNodeShows, checked_at, leaf_means, own_at}
use Rattle.slh_audit.proofs.OwnLayers.{upper_silent}
use Rattle.slh_audit.proofs.Shown.{says, told}
use Rattle.slh_audit.proofs.Told.{length-wots_pk_from_sig, node_told_of, rows_fit}
use Rattle.slh_audit.specs.Evidence.{Dispute, IsOwnFrom, Parts, collide, dispute_on, leaf_shows, shows}
use Rattle.slh_audit.specs.Places.{chain_places, in_turn, layer_places, tree_node_places}
use Rattle.slh_audit.specs.declared.evidence.Evidence.{Evidence}
use Rattle.slh_audit.specs.declared.evidence.Evidence.TheVariants.{Leaf, TreeNode}
use Rattle.slh_core.proofs.Chains.{length-wots_pk}
use Rattle.slh_core.specs.Address.{address_bytes, wots_pk_type}
use Rattle.slh_core.specs.Bytes.{joined, part}
use Rattle.slh_core.specs.Digits.{wots_digits}
use Rattle.slh_core.specs.Parameters.{Scheme, chain_count}
use Rattle.slh_core.specs.Suite.{HasLength, Seeded}
use Rattle.slh_core.specs.Wots.{chain_value, checked_ends, wots_pk, wots_pk_from_sig}
use Rattle.slh_merkle.proofs.Layers.{checked_message-more}
use Rattle.slh_merkle.specs.Checking.{checked_node}
use Rattle.slh_merkle.specs.Fors.{fors_pk}
use Rattle.slh_merkle.specs.Hypertree.{layer_signature, layer_size, leaf_at, tree_at}
use Rattle.slh_merkle.specs.Merkle.{climb, sibling_of}
use Rattle.slh_merkle.specs.Xmss.{tree_place, xmss_node, xmss_sig}

-- a layer's places, by two names of its number and of what is in dispute
module _ (Z : Scheme) (x y : Parts) (i j : ℕ) (same : x ≡ y) (at : i ≡ j) (node : Option Evidence) (is_node : node ≡ find (shows (dispute_on Z x)) (tree_node_places Z.hp i)) where
  pub layer_by_node : is_some node ≡ true → node ≡ find (shows (dispute_on Z y)) (layer_places Z.hp (chain_count Z.n) j)
  layer_by_node found = after_some (shows (dispute_on Z y)) _ _ _ found (rw (same, at) at is_node)

  module _ (none : is_some node ≡ false) (shown : Bool) (is_shown : shown ≡ shows (dispute_on Z x) (Leaf i)) where
    pub layer_by_leaf : shown ≡ true → Some (Leaf j) ≡ find (shows (dispute_on Z y)) (layer_places Z.hp (chain_count Z.n) j)
    layer_by_leaf holds =
        let test = shows (dispute_on Z y) in
        after_half test _ _ _ _ none (rw (same, at) at is_node) (head_found test shown _ _ holds (rw (same, at) at is_shown))

    pub layer_by_chains : shown ≡ false → (chain : Option Evidence) → chain ≡ find (shows (dispute_on Z x)) (in_turn (chain_places i) (chain_count Z.n))
        → chain ≡ find (shows (dispute_on Z y)) (layer_places Z.hp (chain_count Z.n) j)
    layer_by_chains fails chain is_chain =
        let test = shows (dispute_on Z y) in
        after_half test _ _ _ _ none (rw (same, at) at is_node) (rw (same, at) at is_chain ∙ sym (head_not test shown _ _ fails (rw (same, at) at is_shown)))

-- the search of the layers begins below those that are the key's own
pub layers_begin : (D : Dispute) (count lowest : ℕ) → count ≡ D.d → HasLength D.K.suite D.K.n → IsOwnFrom D lowest → lowest ≤ D.d
    → find (shows D) (in_turn (λ down. layer_places D.hp (chain_count D.K.n) (D.d - 1 - down)) (count - lowest)) ≡ None
layers_begin D count lowest is_count law own high = rw is_count (upper_silent D lowest law own high)

-- layer j of a key, and the root above it
module _ (D : Dispute) (L : Seeded) (sk : List ℕ) (j t : ℕ) (same : L ≡ D.K) (is_sk : sk ≡ D.sk) (is_t : t ≡ tree_at D.hp D.t j) where
  pub layer_made : (y : ℕ) (own made : List ℕ) → y ≡ leaf_at D.hp D.t D.l j → own ≡ own_at D j → made ≡ xmss_sig L sk j t y own D.hp
      → made ≡ layer_signature D.K D.hp D.sk D.t D.l (fors_pk D.K D.sk D.t D.l D.k D.a) j
  unfolding layer_signature
  layer_made y own made is_y is_own is_made = rw (is_made, same, is_sk, is_t, is_y, is_own) refl

  pub layer_root : (root : List ℕ) → root ≡ xmss_node L sk j t D.hp 0 → root ≡ own_at D (j + 1)
  layer_root root is_root = rw (is_root, same, is_sk, is_t, add-one) refl

-- the check of layer j leads on
pub layer_checked : (D : Dispute) (L : Seeded) (j t y : ℕ) (sig m out : List ℕ) → L ≡ D.K → t ≡ tree_at D.hp D.t j → y ≡ leaf_at D.hp D.t D.l j
    → sig ≡ part (layer_size D.K.n D.hp) D.layers j → m ≡ checked_at D j → out ≡ checked_node L j t y sig m D.hp → out ≡ checked_at D (j + 1)
layer_checked D L j t y sig m out same is_t is_y is_sig is_m is_out =
    rw (is_out, same, is_t, is_y, is_sig, is_m) (checked_message-more D.K D.hp D.t D.l D.layers _ j)

-- the node at height z on the way up
pub tree_node_shown : (D : Dispute) (L : Seeded) (sk sig m : List ℕ) (j t y z : ℕ) (chains path leaf below own_below beside own_beside above own_above : List ℕ) (shown : Bool)
    → HasLength D.K.suite D.K.n → L ≡ D.K → sk ≡ D.sk → j < D.d → t ≡ tree_at D.hp D.t j → y ≡ leaf_at D.hp D.t D.l j → sig ≡ part (layer_size D.K.n D.hp) D.layers j → m ≡ checked_at D j
    → 1 ≤ z → z ≤ D.hp → length path ≡ D.hp * D.K.n → chains ≡ take (chain_count D.K.n * D.K.n) sig → path ≡ drop (chain_count D.K.n * D.K.n) sig
    → leaf ≡ wots_pk_from_sig L j t y chains m
    → below ≡ climb L (tree_place j t) leaf y path (z - 1) → own_below ≡ xmss_node L sk j t (z - 1) (y / 2 ^ (z - 1))
    → beside ≡ part D.K.n path (z - 1) → own_beside ≡ xmss_node L sk j t (z - 1) (sibling_of (y / 2 ^ (z - 1)))
    → above ≡ climb L (tree_place j t) leaf y path z → own_above ≡ xmss_node L sk j t z (y / 2 ^ z)
    → IsTrue shown ↔ ((¬ ((below ≡ own_below) × (beside ≡ own_beside))) × (above ≡ own_above)) → shown ≡ shows D (TreeNode j z)
unfolding IsShown TreeNodeShows checked_node
tree_node_shown D L sk sig m j t y z chains path leaf below own_below beside own_beside above own_above shown law same is_sk layer is_t is_y is_sig is_m low high path_len is_chains is_path is_leaf is_below is_own_below is_beside is_own_beside is_above is_own_above compared =
    let size = chain_count D.K.n * D.K.n in
    let from = wots_pk_from_sig D.K j t y (take size sig) m in
    let from_is : leaf ≡ from = rw (is_leaf, same, is_chains) refl in
    let fits : z * D.K.n ≤ length (drop size sig) = rw is_path at (rows_fit z D.hp D.K.n (length path) high path_len) in
    let tells : IsTrue shown ↔ TreeNodeShows D.K D.sk j t y sig m z
    = node_told_of D.K (tree_place j t) (wots_pk D.K D.sk j t) from (drop size sig) y z law (λ i. length-wots_pk D.K D.sk j t i law) (length-wots_pk_from_sig D.K j t y (take size sig) m law) low fits
    shown below own_below beside own_beside above own_above
    (rw (is_below, from_is, is_path, same) refl) (rw (is_own_below, same, is_sk) refl) (rw (is_beside, is_path) refl) (rw (is_own_beside, same, is_sk) refl)
    (rw (is_above, from_is, is_path, same) refl) (rw (is_own_above, same, is_sk) refl) compared in
    let placed = rw (is_t, is_y, is_sig, is_m) at tells in
    told D _ _ ((λ yes. (low, high, (layer, placed.0 yes))), (λ holds. placed.1 holds.2.1))

-- the ends of all chains
pub leaf_shown : (D : Dispute) (L : Seeded) (sk sig m : List ℕ) (j t y : ℕ) (chains w ends own address : List ℕ) (shown : Bool)
    → L ≡ D.K → sk ≡ D.sk → j < D.d → t ≡ tree_at D.hp D.t j → y ≡ leaf_at D.hp D.t D.l j → sig ≡ part (layer_size D.K.n D.hp) D.layers j → m ≡ checked_at D j
    → chains ≡ take (chain_count D.K.n * D.K.n) sig → w ≡ wots_digits D.K.n m → ends ≡ checked_ends L j t y chains w
    → own ≡ joined (λ c. chain_value L sk j t y c 15) (chain_count D.K.n) → address ≡ address_bytes j t wots_pk_type y 0 0
    → shown ≡ collide ends own (L.suite.t L.seed address ends) (L.suite.t L.seed address own) → shown ≡ shows D (Leaf j)
unfolding IsShown leaf_shows wots_pk wots_pk_from_sig
leaf_shown D L sk sig m j t y chains w ends own address shown same is_sk layer is_t is_y is_sig is_m is_chains is_w is_ends is_own is_address is_shown =
    let raw : shown ≡ leaf_shows D.K D.sk j t y sig m = rw (is_shown, is_ends, is_own, is_address, is_chains, is_w, same, is_sk) refl in
    let tells = says _ _ raw (leaf_means _ _ _ _ _ _ _) in
    let placed = rw (is_t, is_y, is_sig, is_m) at tells in
    told D _ _ ((λ yes. (layer, placed.0 yes)), (λ holds. placed.1 holds.1))
