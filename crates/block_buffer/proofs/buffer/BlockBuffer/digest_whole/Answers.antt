use Rattle.std.proofs.Common.{arith}
use Rattle.std.proofs.lemmas.Grind.{common_steps}
use Rattle.block_buffer.proofs.buffer.BlockBuffer.digest_whole.Goals as goal

pub hand_out-requires : goal.hand_out-requires
hand_out-requires g c = grind (arith, common_steps)

pub returns-in_err-hand_out : goal.returns-in_err-hand_out
returns-in_err-hand_out g c = grind (arith, common_steps)

pub returns : goal.returns
returns g c = grind (arith, common_steps)
