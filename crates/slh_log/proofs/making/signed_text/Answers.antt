use Rattle.std.proofs.Common.{arith}
use Rattle.std.proofs.lemmas.Grind.{common_steps}
use Rattle.slh_log.proofs.making.signed_text.Goals as goal

pub returns-in_err-signed : goal.returns-in_err-signed
returns-in_err-signed g c = grind (arith, common_steps)

pub sign_checked-requires : goal.sign_checked-requires
sign_checked-requires g c = grind (arith, common_steps)

pub returns : goal.returns
returns g c = grind (arith, common_steps)
