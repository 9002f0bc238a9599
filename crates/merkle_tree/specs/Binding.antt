-- The inputs that are compared where digests are bound by a root: where one of them stands for
-- another, a pair of them clashes.
use Rattle.std.specs.Prelude.{ℕ, zero, suc, ◌-◌, ◌^◌, ◌==◌, List, [], ◌∷◌, ◌++◌}
use Rattle.std.specs.Prelude.{length, take, drop, map, Bool, true, false, Option}
use Rattle.std.specs.Prelude.{nat_lt, slice_index_or, if◌then◌else◌}
use Rattle.merkle_tree.specs.Clashes.{Inputs, first_clash}
use Rattle.merkle_tree.specs.Climb.{node_input, path_sides}
use Rattle.merkle_tree.specs.Consistency.{Roots, roots_within}
use Rattle.merkle_tree.specs.Tree.{inclusion_path, leaf_hash, pair_input}
use Rattle.merkle_tree.specs.Tree.{tree_root, tree_within}
use Rattle.merkle_tree.specs.Hashes.{HashFunction}

-- what is hashed at the top of a tree that is split at 2 ^ z
abbrev pub top_input : HashFunction → ℕ → List (List ℕ) → List ℕ
top_input H z q = pair_input (tree_within H z (take (2 ^ z) q)) (tree_within H z (drop (2 ^ z) q))

-- what is hashed in two trees over equally many digests
unfoldable pub tree_pairs : HashFunction → ℕ → List (List ℕ) → List (List ℕ) → List Inputs
tree_pairs H zero p q = []
tree_pairs H (suc z) p q =
    if nat_lt (2 ^ z) (length q)
    then record { first = top_input H z p; second = top_input H z q }
    ∷ tree_pairs H z (take (2 ^ z) p) (take (2 ^ z) q)
    ++ tree_pairs H z (drop (2 ^ z) p) (drop (2 ^ z) q)
    else tree_pairs H z p q

-- what a checker hashes with a digest e on the left, and what stands there in the two trees
abbrev pub left_pairs : HashFunction → ℕ → List (List ℕ) → List (List ℕ) → List ℕ → Roots → List Inputs
left_pairs H z p q e roots =
    record { first = pair_input e roots.old; second = top_input H z p }
    ∷ record { first = pair_input e roots.new; second = top_input H z q } ∷ []

-- likewise with e on the right, which is only in the new tree
abbrev pub right_pair : HashFunction → ℕ → List (List ℕ) → List ℕ → Roots → Inputs
right_pair H z q e roots = record { first = pair_input roots.new e; second = top_input H z q }

-- What is compared where a proof leads from the root over p to that over q.
unfoldable pub grown_within : HashFunction → ℕ → List (List ℕ) → List (List ℕ) → Bool → List ℕ → List (List ℕ) → List Inputs
grown_within H zero p q whole old proof = tree_pairs H zero p q
grown_within H (suc z) p q whole old proof =
    let e = slice_index_or proof (length proof - 1) [] in
    let r = take (length proof - 1) proof in
    let s = 2 ^ z in
    if length p == length q
    then tree_pairs H (suc z) p q
    else if nat_lt s (length q)
    then (if nat_lt s (length p)
    then left_pairs H z p q e (roots_within H z (length p - s) (length q - s) false old r)
    ++ tree_pairs H z (take s p) (take s q)
    ++ grown_within H z (drop s p) (drop s q) false old r
    else right_pair H z q e (roots_within H z (length p) s whole old r)
    ∷ grown_within H z p (take s q) whole old r)
    else grown_within H z p q whole old proof

abbrev pub grown_pairs : HashFunction → List (List ℕ) → List (List ℕ) → List ℕ → List (List ℕ) → List Inputs
grown_pairs H p q old proof = grown_within H (length q) p q true old proof

-- the first pair that clashes where two lists of equally many digests have one root
abbrev pub roots_clash : HashFunction → List (List ℕ) → List (List ℕ) → Option Inputs
roots_clash H p q = first_clash H (tree_pairs H (length q) p q)

-- likewise where a proof leads from the root over p to that over q
abbrev pub growth_clash : HashFunction → List (List ℕ) → List (List ℕ) → List (List ℕ) → Option Inputs
growth_clash H p q proof = first_clash H (grown_pairs H p q (tree_root H p) proof)

-- what is hashed for the entries of two lists
unfoldable pub entry_pairs : List (List ℕ) → List (List ℕ) → List Inputs
entry_pairs [] b = []
entry_pairs (m ∷ a) [] = []
entry_pairs (m ∷ a) (o ∷ b) = record { first = 0 ∷ m; second = 0 ∷ o } ∷ entry_pairs a b

-- the first pair that clashes where a proof leads from the root over entries a to that over b
abbrev pub entries_clash : HashFunction → List (List ℕ) → List (List ℕ) → List (List ℕ) → Option Inputs
entries_clash H a b proof =
    let p = map (leaf_hash H) a in
    let q = map (leaf_hash H) b in
    first_clash H (entry_pairs a b ++ grown_pairs H p q (tree_root H p) proof)

-- likewise for entries that have one root
abbrev pub entries_root_clash : HashFunction → List (List ℕ) → List (List ℕ) → Option Inputs
entries_root_clash H a b =
    first_clash H (entry_pairs a b ++ tree_pairs H (length b) (map (leaf_hash H) a) (map (leaf_hash H) b))

-- what is hashed on two ways up along the same sides
unfoldable pub climb_pairs : HashFunction → List ℕ → List ℕ → List Bool → List (List ℕ) → List (List ℕ) → List Inputs
climb_pairs H x y [] p r = []
climb_pairs H x y (side ∷ sides) [] r = []
climb_pairs H x y (side ∷ sides) (e ∷ p) [] = []
climb_pairs H x y (side ∷ sides) (e ∷ p) (f ∷ r) =
    record { first = node_input side x e; second = node_input side y f }
    ∷ climb_pairs H (H (node_input side x e)) (H (node_input side y f)) sides p r

-- the first pair that clashes where a path leads from x to the root over q, as from digest i
abbrev pub inclusion_clash : HashFunction → List (List ℕ) → ℕ → List ℕ → List (List ℕ) → Option Inputs
inclusion_clash H q i x path = first_clash H
    (climb_pairs H x (slice_index_or q i []) (path_sides i (length q)) path (inclusion_path H q i))

-- likewise for an entry m in the place of entry i of a
abbrev pub entry_clash : HashFunction → List (List ℕ) → ℕ → List ℕ → List (List ℕ) → Option Inputs
entry_clash H a i m path =
    let q = map (leaf_hash H) a in
    first_clash H (record { first = 0 ∷ m; second = 0 ∷ slice_index_or a i [] }
    ∷ climb_pairs H (leaf_hash H m) (slice_index_or q i []) (path_sides i (length q)) path (inclusion_path H q i))

-- the first pair that clashes where two paths lead from x and y, each as from i of n, to one root
abbrev pub paths_clash : HashFunction → ℕ → ℕ → List ℕ → List ℕ → List (List ℕ) → List (List ℕ) → Option Inputs
paths_clash H i n x y p r = first_clash H (climb_pairs H x y (path_sides i n) p r)
