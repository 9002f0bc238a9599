use Rattle.std.proofs.Common.{[], ◌∙◌, ap, arith, slice_index_or, take}
use Rattle.std.proofs.lemmas.List.{take-take}
use Rattle.sha256_lanes.specs.Eight.{head_bytes}
use Rattle.sha256_lanes.proofs.EightWords.{words_are}
use Rattle.sha256_lanes.proofs.lanes.Heads.of_blocks.Goals as goal

pub returns : goal.returns
unfolding head_bytes
returns c j h =
    let b = slice_index_or c.args.blocks.now j [] in
    rw (
      c.of_blocks.ensures j h,
      c.of_blocks-2.ensures j h,
      c.of_blocks-3.ensures j h,
      c.of_blocks-4.ensures j h,
      c.of_blocks-5.ensures j h,
      c.of_blocks-6.ensures j h,
    ) (ap (take 22) (words_are b 6 0 (c.requires j h) (omega arith)) ∙ take-take 22 24 b (omega arith))
