use Rattle.std.proofs.Common.{arith}
use Rattle.std.proofs.lemmas.Grind.{common_steps}
use Rattle.slh_log.proofs.making.check_checkpoint.Goals as goal

pub returns-then-not-is_origin : goal.returns-then-not-is_origin
returns-then-not-is_origin g c = grind (arith, common_steps)

pub returns : goal.returns
returns g c = grind (arith, common_steps)
