use Rattle.std.proofs.Common.{arith}
use Rattle.std.proofs.lemmas.Grind.{common_steps}
use Rattle.slh_jobs.proofs.judge.judge.Goals as goal

pub returns-in-Verify : goal.returns-in-Verify
returns-in-Verify g c = grind (arith, common_steps)

pub returns-in-Audit : goal.returns-in-Audit
returns-in-Audit g c = grind (arith, common_steps)

pub returns-in-Check : goal.returns-in-Check
returns-in-Check g c = grind (arith, common_steps)
