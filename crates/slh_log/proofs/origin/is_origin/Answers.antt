use Rattle.std.proofs.Common.{arith}
use Rattle.std.proofs.lemmas.Grind.{common_steps}
use Rattle.slh_log.proofs.origin.is_origin.Goals as goal

pub returns-then-is_empty : goal.returns-then-is_empty
returns-then-is_empty c = grind (arith, common_steps)

pub each_byte-init : goal.each_byte-init
each_byte-init c = grind (arith, common_steps)

pub returns-then-byte-le32 : goal.returns-then-byte-le32
returns-then-byte-le32 c = grind (arith, common_steps)

pub returns : goal.returns
returns c = grind (arith, common_steps)
