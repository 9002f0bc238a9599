use Rattle.std.proofs.Common.{arith}
use Rattle.std.proofs.lemmas.Grind.{common_steps}
use Rattle.slh_audit.proofs.dispute.Dispute.layer_check.Goals as goal

pub returns : goal.returns
returns g c = grind (arith, common_steps)
