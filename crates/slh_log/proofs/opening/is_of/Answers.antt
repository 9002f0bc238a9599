use Rattle.std.proofs.Common.{arith}
use Rattle.std.proofs.lemmas.Grind.{common_steps}
use Rattle.slh_log.proofs.opening.is_of.Goals as goal

pub returns-then-is_origin : goal.returns-then-is_origin
returns-then-is_origin c = grind (arith, common_steps)

pub returns-else-is_origin : goal.returns-else-is_origin
returns-else-is_origin c = grind (arith, common_steps)
