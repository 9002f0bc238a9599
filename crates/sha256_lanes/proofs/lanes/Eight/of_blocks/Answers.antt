use Rattle.std.proofs.Common.{[], arith, slice_index_or}
use Rattle.sha256_lanes.specs.Eight.{lane_bytes}
use Rattle.sha256_lanes.proofs.EightWords.{words_are}
use Rattle.sha256_lanes.proofs.lanes.Eight.of_blocks.Goals as goal

pub returns : goal.returns
unfolding lane_bytes
returns c j h =
    rw (
      c.of_blocks.ensures j h,
      c.of_blocks-2.ensures j h,
      c.of_blocks-3.ensures j h,
      c.of_blocks-4.ensures j h,
      c.of_blocks-5.ensures j h,
      c.of_blocks-6.ensures j h,
      c.of_blocks-7.ensures j h,
      c.of_blocks-8.ensures j h,
    ) (words_are (slice_index_or c.args.blocks.now j []) 8 0 (c.requires j h) (omega arith))
