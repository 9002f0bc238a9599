use Rattle.std.proofs.Common.{refl}
use Rattle.sha256_lanes.proofs.compression.window_of.Goals as goal

pub returns : goal.returns
returns g c j h =
    rw (
      c.of_blocks.ensures j h,
      c.of_blocks-2.ensures j h,
      c.of_blocks-3.ensures j h,
      c.of_blocks-4.ensures j h,
      c.of_blocks-5.ensures j h,
      c.of_blocks-6.ensures j h,
      c.of_blocks-7.ensures j h,
      c.of_blocks-8.ensures j h,
      c.of_blocks-9.ensures j h,
      c.of_blocks-10.ensures j h,
      c.of_blocks-11.ensures j h,
      c.of_blocks-12.ensures j h,
      c.of_blocks-13.ensures j h,
      c.of_blocks-14.ensures j h,
      c.of_blocks-15.ensures j h,
      c.of_blocks-16.ensures j h,
    ) refl
