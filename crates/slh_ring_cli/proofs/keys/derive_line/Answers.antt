use Rattle.std.proofs.Common.{arith}
use Rattle.std.proofs.lemmas.Grind.{common_steps}
use Rattle.slh_ring_cli.proofs.keys.derive_line.Goals as goal

pub returns-then-fields-ne4 : goal.returns-then-fields-ne4
returns-then-fields-ne4 g c = grind (arith, common_steps)

pub returns-in_err-path : goal.returns-in_err-path
returns-in_err-path g c = grind (arith, common_steps)

pub returns-in_err-master : goal.returns-in_err-master
returns-in_err-master g c = grind (arith, common_steps)

pub returns : goal.returns
returns g c = grind (arith, common_steps)
