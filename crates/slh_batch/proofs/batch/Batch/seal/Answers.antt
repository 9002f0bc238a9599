use Rattle.std.proofs.Common.{arith}
use Rattle.std.proofs.lemmas.Grind.{common_steps}
use Rattle.slh_batch.proofs.batch.Batch.seal.Goals as goal

pub returns-in_err-leaves : goal.returns-in_err-leaves
returns-in_err-leaves g c = grind (arith, common_steps)

pub returns-in_err-check_opt_rand : goal.returns-in_err-check_opt_rand
returns-in_err-check_opt_rand g c = grind (arith, common_steps)

pub returns-in_err-levels : goal.returns-in_err-levels
returns-in_err-levels g c = grind (arith, common_steps)

pub returns-in_err-signature : goal.returns-in_err-signature
returns-in_err-signature g c = grind (arith, common_steps)
