-- The roots over whole runs of digests, which a store of a growing tree keeps for good, and the
-- levels of any tree over its first digests.
use Rattle.std.specs.Prelude.{◌≡◌, ℕ, zero, suc, ◌*◌, ◌^◌, ◌≤◌, List, [], ◌∷◌, ◌++◌, length}
use Rattle.std.specs.Prelude.{take, drop, Option, None, Some}
use Rattle.merkle_tree.specs.Levels.{full_pairs}
use Rattle.merkle_tree.specs.Tree.{tree_root}
use Rattle.merkle_tree.specs.Hashes.{HashFunction}

-- the root over the run of 2 ^ level digests that has an index among such runs
abbrev pub run_root : HashFunction → ℕ → ℕ → List (List ℕ) → List ℕ
run_root H level index q = tree_root H (take (2 ^ level) (drop (index * 2 ^ level) q))

-- the roots over all whole runs of 2 ^ h digests
unfoldable pub full_level : HashFunction → ℕ → List (List ℕ) → List (List ℕ)
full_level H zero q = q
full_level H (suc h) q = full_level H h (full_pairs H q)

-- a node that is there or not
abbrev pub node_list : Option (List ℕ) → List (List ℕ)
node_list None = []
node_list (Some x) = x ∷ []

-- a level of a tree over first digests of q: so many roots over whole runs, and maybe one more over
-- fewer digests
pub record IsLevel (H : HashFunction) (height whole : ℕ) (rest : Option (List ℕ)) (q level : List (List ℕ)) : Type 0 where
  pub within : whole ≤ length (full_level H height q)
  pub nodes : level ≡ take whole (full_level H height q) ++ node_list rest
