-- What a tree's, a layer's and a forest's part of a signature lead to, by its bytes and public values
-- alone (FIPS 205, algorithms 11, 13 and 17). K is the suite with its public seed.
use Rattle.std.specs.Prelude.{ℕ, zero, suc, ◌+◌, ◌*◌, List, take, drop}
use Rattle.slh_core.specs.Address.{address_bytes, fors_roots_type}
use Rattle.slh_core.specs.Bytes.{joined, part}
use Rattle.slh_core.specs.Wots.{wots_pk_from_sig}
use Rattle.slh_core.specs.Digits.{digits}
use Rattle.slh_core.specs.Parameters.{chain_count}
use Rattle.slh_core.specs.Suite.{Seeded}
use Rattle.slh_merkle.specs.Fors.{fors_place, leaf_index}
use Rattle.slh_merkle.specs.Hypertree.{tree_at, leaf_at, layer_size}
use Rattle.slh_merkle.specs.Merkle.{node_bytes, climb}
use Rattle.slh_merkle.specs.Xmss.{tree_place}

-- in tree t of layer j, the node at height z above leaf y, by the signature of a message
unfoldable pub checked_node : Seeded → ℕ → ℕ → ℕ → List ℕ → List ℕ → ℕ → List ℕ
checked_node K j t y sig m z =
    let chains = chain_count K.n * K.n in
    climb K (tree_place j t) (wots_pk_from_sig K j t y (take chains sig) m) y (drop chains sig) z

module _ (K : Seeded) (hp t l : ℕ) (sig m : List ℕ) where
  -- the message below layer j: m, and then the root that the layer below leads to
  unfoldable pub checked_message : ℕ → List ℕ
  checked_message zero = m
  checked_message (suc j) =
      let layer = part (layer_size K.n hp) sig j in
      checked_node K j (tree_at hp t j) (leaf_at hp t l j) layer (checked_message j) hp

module _ (K : Seeded) (t l a : ℕ) (sig x : List ℕ) where
  -- in tree i of the forest, the node at height z above the opened secret
  unfoldable pub checked_fors_node : ℕ → ℕ → List ℕ
  checked_fors_node i z =
      let opened = part ((1 + a) * K.n) sig i in
      let y = leaf_index a x i in
      let leaf = K.suite.f K.seed (node_bytes (fors_place t l) 0 y) (take K.n opened) in
      climb K (fors_place t l) leaf y (drop K.n opened) z

-- the public key of the forest that the signature of the digest's first part leads to
unfoldable pub fors_pk_from_sig : Seeded → ℕ → ℕ → ℕ → ℕ → List ℕ → List ℕ → List ℕ
fors_pk_from_sig K t l k a sig md =
    let roots : ℕ → List ℕ = λ i. checked_fors_node K t l a sig (digits md a k) i a in
    K.suite.t K.seed (address_bytes 0 t fors_roots_type l 0 0) (joined roots k)

-- how many bytes the forest's part of a signature has
abbrev pub forest_size : ℕ → ℕ → ℕ → ℕ
forest_size n k a = k * ((1 + a) * n)
