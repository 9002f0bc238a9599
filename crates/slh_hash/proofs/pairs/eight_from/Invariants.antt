use Rattle.std.proofs.Common.{◌≡◌, ℕ, ◌+◌, ◌<◌, length, slice_index}
use Rattle.slh_hash.proofs.pairs.eight_from.Given as goal

abbrev pub invariant-loop-k : goal.invariant-loop-k
invariant-loop-k l = (length l.numbers ≡ 8) × ((k : ℕ) → k < l.k → slice_index l.numbers k ≡ l.first + k)
