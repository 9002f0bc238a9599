use Rattle.std.proofs.Common.{arith}
use Rattle.std.proofs.lemmas.Grind.{common_steps}
use Rattle.block_buffer.proofs.buffer.hand_out.Goals as goal

pub take-requires : goal.take-requires
take-requires g c = grind (arith, common_steps)

pub returns : goal.returns
returns g c = grind (arith, common_steps)
