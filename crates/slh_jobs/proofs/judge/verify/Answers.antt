use Rattle.std.proofs.Common.{arith}
use Rattle.std.proofs.lemmas.Grind.{common_steps}
use Rattle.slh_jobs.proofs.judge.verify.Goals as goal

pub returns-in_err-key : goal.returns-in_err-key
returns-in_err-key g c = grind (arith, common_steps)

pub returns-in_err-hash_verify : goal.returns-in_err-hash_verify
returns-in_err-hash_verify g c = grind (arith, common_steps)

pub returns : goal.returns
returns g c = grind (arith, common_steps)
