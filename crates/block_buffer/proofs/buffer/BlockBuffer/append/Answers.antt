use Rattle.std.proofs.Common.{arith}
use Rattle.std.proofs.lemmas.Grind.{common_steps}
use Rattle.block_buffer.proofs.buffer.BlockBuffer.append.Goals as goal

pub get_pos-pos-requires : goal.get_pos-pos-requires
get_pos-pos-requires g c = grind (arith, common_steps)

pub set_pos-requires : goal.set_pos-requires
set_pos-requires g c = grind (arith, common_steps)

pub returns : goal.returns
returns g c = grind (arith, common_steps)
