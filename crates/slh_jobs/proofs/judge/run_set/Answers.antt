use Rattle.std.proofs.Common.{arith}
use Rattle.std.proofs.lemmas.Grind.{common_steps}
use Rattle.slh_jobs.proofs.judge.run_set.Goals as goal

pub returns-in-Keygen : goal.returns-in-Keygen
returns-in-Keygen g c = grind (arith, common_steps)

pub returns-in-Sign : goal.returns-in-Sign
returns-in-Sign g c = grind (arith, common_steps)

pub returns-in_default : goal.returns-in_default
returns-in_default g c = grind (arith, common_steps)
