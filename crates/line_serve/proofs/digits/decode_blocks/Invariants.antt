use Rattle.std.proofs.Common.{◌≡◌, ◌<◌, ◌≤◌, ◌+◌, ◌*◌, ◌-◌, ℕ, Ok, length, slice_index}
use Rattle.hex.specs.Hex.{pair_value}
use Rattle.line_serve.proofs.digits.decode_blocks.Given as goal

-- the bytes so far
abbrev pub invariant-loop-out : goal.invariant-loop-out
invariant-loop-out l = record {
  within : l.done ≤ length l.out;
  same : length l.out ≡ length l.fn.out;
  bytes : (k i : ℕ) → k < l.done → pair_value (slice_index l.digits (2 * k)) (slice_index l.digits (2 * k + 1)) i ≡ Ok (slice_index l.out k);
}

abbrev pub decreases-loop-out : goal.decreases-loop-out
decreases-loop-out l = length l.out - l.done
