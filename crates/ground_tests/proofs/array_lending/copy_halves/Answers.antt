use Rattle.std.proofs.Common.{arith}
use Rattle.std.proofs.lemmas.Grind.{common_steps}
use Rattle.ground_tests.proofs.array_lending.copy_halves.Goals as goal

pub returns : goal.returns
returns g c = grind (arith, common_steps)
