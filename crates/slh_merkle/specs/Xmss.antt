-- The trees of a layer (FIPS 205, section 6). K is the suite with its public seed, sk the secret
-- seed, j the layer, t the tree, y the index of a leaf.
use Rattle.std.specs.Prelude.{ℕ, List, ◌++◌}
use Rattle.slh_core.specs.Address.{tree_type}
use Rattle.slh_core.specs.Wots.{wots_pk, wots_sig}
use Rattle.slh_core.specs.Suite.{Seeded}
use Rattle.slh_merkle.specs.Merkle.{Place, merkle, merkle_auth_path}

abbrev pub tree_place : ℕ → ℕ → Place
tree_place j t = record { layer = j; tree = t; kind = tree_type; word = 0 }

module _ (K : Seeded) (sk : List ℕ) (j t : ℕ) where
  -- the node with index i at height z (algorithm 9)
  abbrev pub xmss_node : ℕ → ℕ → List ℕ
  xmss_node z i = merkle K (tree_place j t) (wots_pk K sk j t) z i

  -- the siblings on the way up from leaf y, for the first heights
  abbrev pub auth_path : ℕ → ℕ → List ℕ
  auth_path y heights = merkle_auth_path K (tree_place j t) (wots_pk K sk j t) y heights

  -- the signature of a message under leaf y of a tree of height hp (algorithm 10)
  abbrev pub xmss_sig : ℕ → List ℕ → ℕ → List ℕ
  xmss_sig y m hp = wots_sig K sk j t y m ++ auth_path y hp
