use Rattle.std.proofs.Common.{[], ◌∙◌, ap, arith, slice_index_or, take}
use Rattle.sha256_lanes.proofs.EightWords.{take_padded_all}
use Rattle.sha256_lanes.proofs.lanes.Heads.of.Goals as goal

pub of_blocks-requires : goal.of_blocks-requires
of_blocks-requires c = λ j h. c.each_head.invariant.1 j (omega arith)

pub returns : goal.returns
returns c j h =
    c.of_blocks.ensures j h ∙ ap (take 22) (c.each_head.invariant.2 j (omega arith))
    ∙ take_padded_all 22 (slice_index_or c.args.heads.now j []) (omega arith) (c.each_head.invariant.3 j (omega arith))
