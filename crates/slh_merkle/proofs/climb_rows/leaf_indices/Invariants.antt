use Rattle.std.proofs.Common.{◌≡◌, ◌<◌, ℕ, length, slice_index}
use Rattle.slh_merkle.specs.Fors.{leaf_index}
use Rattle.slh_merkle.proofs.climb_rows.leaf_indices.Given as goal

-- the indices so far
abbrev pub invariant-loop-i : goal.invariant-loop-i
invariant-loop-i g l =
    (length l.indices ≡ length l.initial.indices)
    × ((k : ℕ) → k < l.i → slice_index l.indices k ≡ leaf_index g.P.ForsSizes.A l.digits k)
