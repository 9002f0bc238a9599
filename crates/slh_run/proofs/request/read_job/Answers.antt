use Rattle.std.proofs.lemmas.Grind.{common_steps}
use Rattle.std.proofs.Common.{arith}
use Rattle.slh_run.proofs.request.read_job.Goals as goal

pub returns-in-Keygen : goal.returns-in-Keygen
returns-in-Keygen c = grind (arith, common_steps)

pub returns-in-Sign : goal.returns-in-Sign
returns-in-Sign c = grind (arith, common_steps)

pub returns-in-Verify : goal.returns-in-Verify
returns-in-Verify c = grind (arith, common_steps)

pub returns-in-Audit : goal.returns-in-Audit
returns-in-Audit c = grind (arith, common_steps)

pub returns-in-Check : goal.returns-in-Check
returns-in-Check c = grind (arith, common_steps)

pub returns-in_default-command : goal.returns-in_default-command
returns-in_default-command c = grind (arith, common_steps)
