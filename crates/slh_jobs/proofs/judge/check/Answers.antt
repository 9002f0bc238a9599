use Rattle.std.proofs.Common.{arith}
use Rattle.std.proofs.lemmas.Grind.{common_steps}
use Rattle.slh_jobs.proofs.judge.check.Goals as goal

pub returns-in_err-shown : goal.returns-in_err-shown
returns-in_err-shown g c = grind (arith, common_steps)

pub returns : goal.returns
returns g c = grind (arith, common_steps)
