-- The bytes of a hash address (FIPS 205, sections 4.2 and 11.2).
use Rattle.std.specs.Prelude.{ℕ, List, ◌++◌, slice_range}
use Rattle.slh_core.specs.Bytes.{big_endian}

-- the types of addresses: a step of a chain, the public key of a key pair, a node of a tree, a node
-- of a tree of a forest, the roots of a forest, the secret of a chain, a secret of a forest
abbrev pub wots_hash_type : ℕ
wots_hash_type = 0

abbrev pub wots_pk_type : ℕ
wots_pk_type = 1

abbrev pub tree_type : ℕ
tree_type = 2

abbrev pub fors_tree_type : ℕ
fors_tree_type = 3

abbrev pub fors_roots_type : ℕ
fors_roots_type = 4

abbrev pub wots_prf_type : ℕ
wots_prf_type = 5

abbrev pub fors_prf_type : ℕ
fors_prf_type = 6

-- the layer, the tree, the type and three words, as 32 bytes
unfoldable pub address_bytes : ℕ → ℕ → ℕ → ℕ → ℕ → ℕ → List ℕ
address_bytes layer tree kind w1 w2 w3 =
    big_endian layer 4
    ++ big_endian 0 4
    ++ big_endian tree 8
    ++ big_endian kind 4
    ++ big_endian w1 4
    ++ big_endian w2 4
    ++ big_endian w3 4

-- of 32 address bytes 22: the layer's last, the tree's last eight, the type's last, and the words
abbrev pub compressed_address : List ℕ → List ℕ
compressed_address a =
    slice_range a 3 4 ++ slice_range a 8 16 ++ slice_range a 19 20 ++ slice_range a 20 32
