-- What calls answer of the forest, of values that are computed somehow.
use Rattle.std.proofs.Common.{◌≡◌, ◌↔◌, ℕ, ◌+◌, ◌-◌, ◌*◌, ◌/◌, ◌^◌, ◌<◌, ◌≤◌, Bool, IsTrue, List, length, take, drop, refl}
use Rattle.slh_audit.proofs.Meaning.{IsShown, fors_roots_mean}
use Rattle.slh_audit.proofs.OwnBytes.{length-fors_leaf}
use Rattle.slh_audit.proofs.Shown.{fors_node_shown, says, told}
use Rattle.slh_audit.proofs.Told.{fors_node_meant, node_told_of, rows_fit}
use Rattle.slh_audit.specs.Evidence.{Dispute, collide, fors_roots_show, shows}
use Rattle.slh_audit.specs.declared.evidence.Evidence.TheVariants.{ForsNode, ForsRoots}
use Rattle.slh_core.specs.Address.{address_bytes, fors_roots_type}
use Rattle.slh_core.specs.Bytes.{joined, part}
use Rattle.slh_core.specs.Digits.{digits}
use Rattle.slh_core.specs.Suite.{HasLength, Seeded}
use Rattle.slh_merkle.specs.Checking.{checked_fors_node, fors_pk_from_sig}
use Rattle.slh_merkle.specs.Fors.{fors_leaf, fors_node, fors_pk, fors_place, leaf_index}
use Rattle.slh_merkle.specs.Merkle.{climb, node_bytes, sibling_of}

module _ (D : Dispute) (L : Seeded) (sk md forest : List ℕ) (t l : ℕ)
    (same : L ≡ D.K) (is_sk : sk ≡ D.sk) (is_md : md ≡ D.md) (is_forest : forest ≡ D.forest) (is_t : t ≡ D.t) (is_l : l ≡ D.l) where
  -- the node at height z on the way up in tree i
  pub fors_node_shown_by : (i z y : ℕ) (path secret leaf below own_below beside own_beside above own_above : List ℕ) (shown : Bool)
      → HasLength D.K.suite D.K.n → i < D.k → 1 ≤ z → z ≤ D.a
      → y ≡ leaf_index D.a (digits md D.a D.k) i → length path ≡ D.a * D.K.n
      → secret ≡ take D.K.n (part ((1 + D.a) * D.K.n) forest i) → path ≡ drop D.K.n (part ((1 + D.a) * D.K.n) forest i)
      → leaf ≡ L.suite.f L.seed (node_bytes (fors_place t l) 0 y) secret
      → below ≡ climb L (fors_place t l) leaf y path (z - 1) → own_below ≡ fors_node L sk t l (z - 1) (y / 2 ^ (z - 1))
      → beside ≡ part D.K.n path (z - 1) → own_beside ≡ fors_node L sk t l (z - 1) (sibling_of (y / 2 ^ (z - 1)))
      → above ≡ climb L (fors_place t l) leaf y path z → own_above ≡ fors_node L sk t l z (y / 2 ^ z)
      → IsTrue shown ↔ ((¬ ((below ≡ own_below) × (beside ≡ own_beside))) × (above ≡ own_above)) → shown ≡ shows D (ForsNode i z)
  fors_node_shown_by i z y path secret leaf below own_below beside own_beside above own_above shown law inside low high is_y path_len is_secret is_path is_leaf is_below is_own_below is_beside is_own_beside is_above is_own_above compared =
      let n = D.K.n in
      let x = digits D.md D.a D.k in
      let index = leaf_index D.a x i in
      let opened = part ((1 + D.a) * n) D.forest i in
      let from = D.K.suite.f D.K.seed (node_bytes (fors_place D.t D.l) 0 index) (take n opened) in
      let y_is : y ≡ index = rw (is_y, is_md) refl in
      let path_is : path ≡ drop n opened = rw (is_path, is_forest) refl in
      let from_is : leaf ≡ from = rw (is_leaf, is_secret, y_is, is_forest, same, is_t, is_l) refl in
      let fits : z * n ≤ length (drop n opened) = rw path_is at (rows_fit z D.a n (length path) high path_len) in
      let tells = fors_node_meant D.K D.sk D.t D.l D.a D.forest x i z shown
      (node_told_of D.K (fors_place D.t D.l) (fors_leaf D.K D.sk D.t D.l) from (drop n opened) index z law (λ k. length-fors_leaf D.K D.sk D.t D.l k law) (law.f _ _ _) low fits
      shown below own_below beside own_beside above own_above
      (rw (is_below, from_is, y_is, path_is, same, is_t, is_l) refl) (rw (is_own_below, y_is, same, is_sk, is_t, is_l) refl)
      (rw (is_beside, path_is) refl) (rw (is_own_beside, y_is, same, is_sk, is_t, is_l) refl)
      (rw (is_above, from_is, y_is, path_is, same, is_t, is_l) refl) (rw (is_own_above, y_is, same, is_sk, is_t, is_l) refl) compared) in
      told D _ _ (fors_node_shown D shown i z inside low high tells)

  -- the roots of all trees
  pub fors_roots_shown_by : (roots own address : List ℕ) (shown : Bool) → address ≡ address_bytes 0 t fors_roots_type l 0 0
      → roots ≡ joined (λ i. checked_fors_node L t l D.a forest (digits md D.a D.k) i D.a) D.k → own ≡ joined (λ i. fors_node D.K D.sk D.t D.l D.a i) D.k
      → shown ≡ collide roots own (L.suite.t L.seed address roots) (L.suite.t L.seed address own) → shown ≡ shows D ForsRoots
  unfolding IsShown fors_roots_show fors_pk fors_pk_from_sig
  fors_roots_shown_by roots own address shown is_address is_roots is_own is_shown =
      let raw : shown ≡ fors_roots_show D.K D.sk D.t D.l D.a D.forest (digits D.md D.a D.k) D.k D.md
      = rw (is_shown, is_roots, is_own, is_address, is_forest, is_md, same, is_t, is_l) refl in
      told D _ _ (says _ _ raw (fors_roots_mean _ _ _ _ _ _ _ _ _))
