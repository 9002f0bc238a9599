use Rattle.std.proofs.Common.{arith}
use Rattle.std.proofs.lemmas.Grind.{common_steps}
use Rattle.slh_manifest.proofs.builder.Builder.add.Goals as goal

pub returns-in_err-check_name : goal.returns-in_err-check_name
returns-in_err-check_name g c = grind (arith, common_steps)

pub push-requires : goal.push-requires
push-requires g c = grind (arith, common_steps)

pub returns-in_err-push-in-Ok-Whole : goal.returns-in_err-push-in-Ok-Whole
returns-in_err-push-in-Ok-Whole g c = grind (arith, common_steps)

pub returns-in-Err : goal.returns-in-Err
returns-in-Err g c = grind (arith, common_steps)

pub returns-in-Ok-Missing : goal.returns-in-Ok-Missing
returns-in-Ok-Missing g c = grind (arith, common_steps)

pub returns-in-Ok-Longer : goal.returns-in-Ok-Longer
returns-in-Ok-Longer g c = grind (arith, common_steps)

pub returns-in_ok-push-in-Ok-Whole : goal.returns-in_ok-push-in-Ok-Whole
returns-in_ok-push-in-Ok-Whole g c = grind (arith, common_steps)
