use Rattle.std.proofs.Common.{arith}
use Rattle.std.proofs.lemmas.Grind.{common_steps}
use Rattle.slh_manifest.proofs.builder.Builder.body.Goals as goal

pub returns-in_err-check_some : goal.returns-in_err-check_some
returns-in_err-check_some c = grind (arith, common_steps)

pub returns-in_err-body : goal.returns-in_err-body
returns-in_err-body c = grind (arith, common_steps)

pub returns : goal.returns
returns c = grind (arith, common_steps)
