-- The tree over a list of digests, and the path of a leaf (RFC 9162, 2.1). Two digests or more are
-- split into a front and a rest; the front has as many as the largest power of two below their
-- number.
use Rattle.std.specs.Prelude.{ℕ, zero, suc, ◌-◌, ◌^◌, List, [], ◌∷◌, ◌++◌, length, take, drop}
use Rattle.std.specs.Prelude.{map, nat_lt, slice_index_or, if◌then◌else◌}
use Rattle.merkle_tree.specs.Hashes.{HashFunction}

-- the digest of an entry
abbrev pub leaf_hash : HashFunction → List ℕ → List ℕ
leaf_hash H m = H (0 ∷ m)

-- what is hashed into the node above two digests
abbrev pub pair_input : List ℕ → List ℕ → List ℕ
pair_input x y = 1 ∷ x ++ y

-- the digest of two digests
abbrev pub node_hash : HashFunction → List ℕ → List ℕ → List ℕ
node_hash H x y = H (1 ∷ x ++ y)

-- the root over no digests
abbrev pub empty_root : HashFunction → List ℕ
empty_root H = H []

-- The root over at most 2 ^ z digests. Where there are more than 2 ^ (z - 1) this is the largest
-- power of two below their number.
unfoldable pub tree_within : HashFunction → ℕ → List (List ℕ) → List ℕ
tree_within H zero q = slice_index_or q 0 (empty_root H)
tree_within H (suc z) q =
    if nat_lt (2 ^ z) (length q)
    then node_hash H (tree_within H z (take (2 ^ z) q)) (tree_within H z (drop (2 ^ z) q))
    else tree_within H z q

-- the root over the digests q. Their number is enough as a height, since n ≤ 2 ^ n.
abbrev pub tree_root : HashFunction → List (List ℕ) → List ℕ
tree_root H q = tree_within H (length q) q

-- the root over entries
abbrev pub entries_root : HashFunction → List (List ℕ) → List ℕ
entries_root H a = tree_root H (map (leaf_hash H) a)

-- the siblings on the way up from digest i of at most 2 ^ z, the one beside the leaf first
unfoldable pub path_within : HashFunction → ℕ → List (List ℕ) → ℕ → List (List ℕ)
path_within H zero q i = []
path_within H (suc z) q i =
    if nat_lt (2 ^ z) (length q)
    then (if nat_lt i (2 ^ z)
    then path_within H z (take (2 ^ z) q) i ++ tree_within H z (drop (2 ^ z) q) ∷ []
    else path_within H z (drop (2 ^ z) q) (i - 2 ^ z) ++ tree_within H z (take (2 ^ z) q) ∷ [])
    else path_within H z q i

-- the siblings on the way up from digest i of q, the one beside the leaf first
abbrev pub inclusion_path : HashFunction → List (List ℕ) → ℕ → List (List ℕ)
inclusion_path H q i = path_within H (length q) q i
