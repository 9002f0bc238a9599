use Rattle.std.proofs.Common.{arith, refl, ◌∙◌}
use Rattle.sha256_lanes.proofs.Ending.{ended_block_is}
use Rattle.sha256_lanes.proofs.blocks.last_block.Goals as goal

pub returns : goal.returns
returns c =
    rw (c.put_ended.ensures refl) at c.put_length.ensures
    ∙ ended_block_is c.args.rest.now c.args.total (omega (arith, c.requires.short)) c.requires.left
