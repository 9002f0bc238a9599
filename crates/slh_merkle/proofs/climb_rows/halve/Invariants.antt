use Rattle.std.proofs.Common.{◌≡◌, ◌/◌, ◌<◌, ◌≤◌, ℕ, length, slice_index}
use Rattle.slh_merkle.proofs.climb_rows.halve.Given as goal

-- those so far are halved, the others are as they were
abbrev pub invariant-loop-i : goal.invariant-loop-i
invariant-loop-i l = record {
  room : length l.indices ≡ length l.initial.indices;
  done : (k : ℕ) → k < l.i → slice_index l.indices k ≡ slice_index l.initial.indices k / 2;
  left : (k : ℕ) → l.i ≤ k → slice_index l.indices k ≡ slice_index l.initial.indices k;
}
