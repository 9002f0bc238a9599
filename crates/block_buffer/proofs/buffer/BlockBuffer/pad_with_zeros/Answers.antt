use Rattle.std.proofs.Common.{arith}
use Rattle.std.proofs.lemmas.Grind.{common_steps}
use Rattle.block_buffer.proofs.buffer.BlockBuffer.pad_with_zeros.Goals as goal

pub returns-in_err-items : goal.returns-in_err-items
returns-in_err-items g c = grind (arith, common_steps)

pub returns-in_err-resize : goal.returns-in_err-resize
returns-in_err-resize g c = grind (arith, common_steps)

pub returns : goal.returns
returns g c = grind (arith, common_steps)
