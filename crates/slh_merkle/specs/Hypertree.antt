-- The layers of trees (FIPS 205, section 7). K is the suite with its public seed, hp the height of
-- a tree, sk the secret seed, t and l the tree and the leaf of layer 0, m the message that layer 0
-- signs.
use Rattle.std.specs.Prelude.{ℕ, zero, suc, ◌+◌, ◌*◌, ◌/◌, ◌%◌, ◌^◌, List}
use Rattle.slh_core.specs.Bytes.{joined}
use Rattle.slh_core.specs.Parameters.{chain_count}
use Rattle.slh_core.specs.Suite.{Seeded}
use Rattle.slh_merkle.specs.Xmss.{xmss_node, xmss_sig}

-- the tree of layer j
abbrev pub tree_at : ℕ → ℕ → ℕ → ℕ
tree_at hp t j = t / 2 ^ (j * hp)

-- the leaf of layer j: above layer 0 the last bits of the tree of the layer below
abbrev pub leaf_at : ℕ → ℕ → ℕ → ℕ → ℕ
leaf_at hp t l zero = l
leaf_at hp t l (suc j) = tree_at hp t j % 2 ^ hp

-- how many bytes a layer's signature has
abbrev pub layer_size : ℕ → ℕ → ℕ
layer_size n hp = (chain_count n + hp) * n

module _ (K : Seeded) (hp : ℕ) (sk : List ℕ) (t l : ℕ) (m : List ℕ) where
  -- the message of layer j: above layer 0 the root of the tree of the layer below
  abbrev pub layer_message : ℕ → List ℕ
  layer_message zero = m
  layer_message (suc j) = xmss_node K sk j (tree_at hp t j) hp 0

  -- the signature of layer j
  unfoldable pub layer_signature : ℕ → List ℕ
  layer_signature j = xmss_sig K sk j (tree_at hp t j) (leaf_at hp t l j) (layer_message j) hp

  -- the signatures of the lowest d layers (algorithm 12)
  unfoldable pub ht_sig : ℕ → List ℕ
  ht_sig d = joined layer_signature d
