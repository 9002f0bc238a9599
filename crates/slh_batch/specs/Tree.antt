-- The tree over the digests of a batch: that of RFC 9162 (2.1) over SHA-256, whose definitions are
-- merkle_tree's.
use Rattle.std.specs.Prelude.{ℕ, List, Bool}
use Rattle.merkle_tree.specs.Climb.{path_climb, path_inputs, path_sides}
use Rattle.merkle_tree.specs.Tree.{inclusion_path, leaf_hash, node_hash, tree_root}
use Rattle.sha256_lanes.specs.Sha256.{sha256}

-- the digest of a message
abbrev pub batch_leaf : List ℕ → List ℕ
batch_leaf m = leaf_hash sha256 m

-- the digest of two digests
abbrev pub batch_node : List ℕ → List ℕ → List ℕ
batch_node x y = node_hash sha256 x y

-- the root over the digests q
abbrev pub batch_tree : List (List ℕ) → List ℕ
batch_tree q = tree_root sha256 q

-- the siblings on the way up from digest i of q, the one beside the leaf first
abbrev pub batch_path : List (List ℕ) → ℕ → List (List ℕ)
batch_path q i = inclusion_path sha256 q i

-- the root above digest i of n, which is x
abbrev pub batch_climb : List ℕ → ℕ → ℕ → List (List ℕ) → List ℕ
batch_climb x i n path = path_climb sha256 x i n path

-- for each sibling on the way up from digest i of n, the leaf's first, whether it is on the left
abbrev pub batch_sides : ℕ → ℕ → List Bool
batch_sides i n = path_sides i n

-- what is hashed on the way up from message i of n, which is m: the leaf's input first
abbrev pub batch_inputs : List ℕ → ℕ → ℕ → List (List ℕ) → List (List ℕ)
batch_inputs m i n path = path_inputs sha256 m i n path
