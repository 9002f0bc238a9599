use Rattle.std.proofs.Common.{arith}
use Rattle.std.proofs.lemmas.Grind.{common_steps}
use Rattle.slh_dsa.proofs.signing_key.SigningKey.hash_sign_with_context.Goals as goal

pub returns-in_err-message : goal.returns-in_err-message
returns-in_err-message g c = grind (arith, common_steps)

pub returns-in_err-bytes : goal.returns-in_err-bytes
returns-in_err-bytes g c = grind (arith, common_steps)

pub returns : goal.returns
returns g c = grind (arith, common_steps)
