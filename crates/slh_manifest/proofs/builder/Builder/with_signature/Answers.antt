use Rattle.std.proofs.Common.{arith}
use Rattle.std.proofs.lemmas.Grind.{common_steps}
use Rattle.slh_manifest.proofs.builder.Builder.with_signature.Goals as goal

pub returns-in_err-check_some : goal.returns-in_err-check_some
returns-in_err-check_some g c = grind (arith, common_steps)

pub returns-in_err-manifest : goal.returns-in_err-manifest
returns-in_err-manifest g c = grind (arith, common_steps)

pub returns : goal.returns
returns g c = grind (arith, common_steps)
