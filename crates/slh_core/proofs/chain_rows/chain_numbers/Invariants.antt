use Rattle.std.proofs.Common.{◌≡◌, ◌<◌, ℕ, length, slice_index}
use Rattle.slh_core.specs.declared.params.TheConstants.{MAX_CHAINS}
use Rattle.slh_core.proofs.chain_rows.chain_numbers.Given as goal

abbrev pub invariant-loop-c : goal.invariant-loop-c
invariant-loop-c l = (length l.numbers ≡ MAX_CHAINS) × ((k : ℕ) → k < l.c → slice_index l.numbers k ≡ k)
