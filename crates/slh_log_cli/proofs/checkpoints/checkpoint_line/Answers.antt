use Rattle.std.proofs.Common.{arith}
use Rattle.std.proofs.lemmas.Grind.{common_steps}
use Rattle.slh_log_cli.proofs.checkpoints.checkpoint_line.Goals as goal

pub returns-then-fields-ne7 : goal.returns-then-fields-ne7
returns-then-fields-ne7 g c = grind (arith, common_steps)

pub returns-in_err-size : goal.returns-in_err-size
returns-in_err-size g c = grind (arith, common_steps)

pub returns-in_err-key : goal.returns-in_err-key
returns-in_err-key g c = grind (arith, common_steps)

pub returns-in_err-origin : goal.returns-in_err-origin
returns-in_err-origin g c = grind (arith, common_steps)

pub returns-in_err-root : goal.returns-in_err-root
returns-in_err-root g c = grind (arith, common_steps)

pub returns-in_err-opt_rand : goal.returns-in_err-opt_rand
returns-in_err-opt_rand g c = grind (arith, common_steps)

pub returns : goal.returns
returns g c = grind (arith, common_steps)
