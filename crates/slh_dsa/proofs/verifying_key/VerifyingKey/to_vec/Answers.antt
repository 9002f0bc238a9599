use Rattle.std.proofs.Common.{arith}
use Rattle.std.proofs.lemmas.Grind.{common_steps}
use Rattle.slh_dsa.proofs.verifying_key.VerifyingKey.to_vec.Goals as goal

pub returns-in_err-bytes : goal.returns-in_err-bytes
returns-in_err-bytes g c = grind (arith, common_steps)

pub returns : goal.returns
returns g c = grind (arith, common_steps)
