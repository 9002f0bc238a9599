use Rattle.std.proofs.Common.{◌≡◌, ◌+◌, ◌<◌, ℕ, length, slice_index}
use Rattle.slh_merkle.proofs.leaves.number_from.Given as goal

abbrev pub invariant-loop-k : goal.invariant-loop-k
invariant-loop-k l =
    (length l.numbers ≡ length l.initial.numbers) × ((k : ℕ) → k < l.k → slice_index l.numbers k ≡ l.first + k)
