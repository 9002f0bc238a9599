use Rattle.std.proofs.Common.{arith}
use Rattle.std.proofs.lemmas.Grind.{common_steps}
use Rattle.slh_jobs.proofs.judge.keygen.Goals as goal

pub returns-in_err-key : goal.returns-in_err-key
returns-in_err-key g c = grind (arith, common_steps)

pub returns-in_err-bytes : goal.returns-in_err-bytes
returns-in_err-bytes g c = grind (arith, common_steps)

pub returns : goal.returns
returns g c = grind (arith, common_steps)
