use Rattle.std.proofs.Common.{arith}
use Rattle.std.proofs.lemmas.Grind.{common_steps}
use Rattle.slh_dsa.proofs.signing_key.SigningKey.try_from.Goals as goal

pub returns-then-bytes-n : goal.returns-then-bytes-n
returns-then-bytes-n g c = grind (arith, common_steps)

pub exact-requires : goal.exact-requires
exact-requires g c = grind (arith, common_steps)

pub returns-in_err-try_from : goal.returns-in_err-try_from
returns-in_err-try_from g c = grind (arith, common_steps)

pub returns : goal.returns
returns g c = grind (arith, common_steps)
