-- The forest below a leaf (FIPS 205, section 8). K is the suite with its public seed, sk the secret
-- seed, t and l the tree and the leaf of layer 0. There are k trees of height a, and indices run
-- through them all. x is the digits that name a leaf in each tree.
use Rattle.std.specs.Prelude.{ℕ, ◌+◌, ◌*◌, ◌^◌, List, ◌++◌, slice_index}
use Rattle.slh_core.specs.Address.{address_bytes, fors_tree_type, fors_roots_type, fors_prf_type}
use Rattle.slh_core.specs.Bytes.{joined}
use Rattle.slh_core.specs.Digits.{digits}
use Rattle.slh_core.specs.Suite.{Seeded}
use Rattle.slh_merkle.specs.Merkle.{Place, node_bytes, merkle, merkle_auth_path}

abbrev pub fors_place : ℕ → ℕ → Place
fors_place t l = record { layer = 0; tree = t; kind = fors_tree_type; word = l }

-- the index of the leaf that a digit names in tree i
abbrev pub leaf_index : ℕ → List ℕ → ℕ → ℕ
leaf_index a x i = i * 2 ^ a + slice_index x i

module _ (K : Seeded) (sk : List ℕ) (t l : ℕ) where
  -- a secret (algorithm 14)
  unfoldable pub fors_secret : ℕ → List ℕ
  fors_secret i = K.suite.prf K.seed (address_bytes 0 t fors_prf_type l 0 i) sk

  -- the hash of a secret
  unfoldable pub fors_leaf : ℕ → List ℕ
  fors_leaf i = K.suite.f K.seed (node_bytes (fors_place t l) 0 i) (fors_secret i)

  -- the node with index i at height z (algorithm 15)
  abbrev pub fors_node : ℕ → ℕ → List ℕ
  fors_node z i = merkle K (fors_place t l) fors_leaf z i

  -- the siblings on the way up from leaf y, for the first heights
  abbrev pub fors_auth_path : ℕ → ℕ → List ℕ
  fors_auth_path y heights = merkle_auth_path K (fors_place t l) fors_leaf y heights

  -- the forest's public key: the hash of all roots
  unfoldable pub fors_pk : ℕ → ℕ → List ℕ
  fors_pk k a =
      K.suite.t K.seed (address_bytes 0 t fors_roots_type l 0 0) (joined (λ i. fors_node a i) k)

  -- what is opened in tree i: a secret and the siblings on the way up from it
  unfoldable pub fors_opened : ℕ → List ℕ → ℕ → List ℕ
  fors_opened a x i = fors_secret (leaf_index a x i) ++ fors_auth_path (leaf_index a x i) a

  -- what is opened in all trees
  unfoldable pub opened_leaves : ℕ → ℕ → List ℕ → List ℕ
  opened_leaves k a x = joined (fors_opened a x) k

  -- the signature of the digest's first part (algorithm 16)
  abbrev pub fors_sig : ℕ → ℕ → List ℕ → List ℕ
  fors_sig k a md = opened_leaves k a (digits md a k)
