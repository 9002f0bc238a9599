use Rattle.std.proofs.Common.{nat_le, slice_index}
use Rattle.sha256_lanes.specs.Eight.{lane_bytes}
use Rattle.sha256_lanes.proofs.EightWords.{chosen_bytes}
use Rattle.sha256_lanes.proofs.lanes.Eight.after.Goals as goal

pub returns : goal.returns
unfolding lane_bytes
returns c j h =
    rw (
      c.chosen.ensures j h,
      c.chosen-2.ensures j h,
      c.chosen-3.ensures j h,
      c.chosen-4.ensures j h,
      c.chosen-5.ensures j h,
      c.chosen-6.ensures j h,
      c.chosen-7.ensures j h,
      c.chosen-8.ensures j h,
    ) (chosen_bytes (nat_le (slice_index c.args.digits.now j) c.args.q) _ _ _ _ _ _ _ _ _ _ _ _ _ _ _ _)
