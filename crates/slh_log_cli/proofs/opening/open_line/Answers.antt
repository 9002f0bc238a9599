use Rattle.std.proofs.Common.{arith}
use Rattle.std.proofs.lemmas.Grind.{common_steps}
use Rattle.slh_log_cli.proofs.opening.open_line.Goals as goal

pub returns-then-fields-ne5 : goal.returns-then-fields-ne5
returns-then-fields-ne5 g c = grind (arith, common_steps)

pub returns-in_err-key : goal.returns-in_err-key
returns-in_err-key g c = grind (arith, common_steps)

pub returns-in_err-origin : goal.returns-in_err-origin
returns-in_err-origin g c = grind (arith, common_steps)

pub returns-in_err-checkpoint : goal.returns-in_err-checkpoint
returns-in_err-checkpoint g c = grind (arith, common_steps)

pub returns : goal.returns
returns g c = grind (arith, common_steps)
