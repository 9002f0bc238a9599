use Rattle.std.proofs.Common.{arith}
use Rattle.std.proofs.lemmas.Grind.{common_steps}
use Rattle.slh_log.proofs.origin.key_id.Goals as goal

pub returns : goal.returns
returns g c = grind (arith, common_steps)
