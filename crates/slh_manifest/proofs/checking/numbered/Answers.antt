use Rattle.std.proofs.Common.{arith}
use Rattle.std.proofs.lemmas.Grind.{common_steps}
use Rattle.slh_manifest.proofs.checking.numbered.Goals as goal

pub returns-in-Missing : goal.returns-in-Missing
returns-in-Missing c = grind (arith, common_steps)

pub returns-in-Differs : goal.returns-in-Differs
returns-in-Differs c = grind (arith, common_steps)

pub returns-in-Fault : goal.returns-in-Fault
returns-in-Fault c = grind (arith, common_steps)
