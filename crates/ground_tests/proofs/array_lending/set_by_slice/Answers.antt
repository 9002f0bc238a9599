use Rattle.std.proofs.Common.{arith}
use Rattle.std.proofs.lemmas.Grind.{common_steps}
use Rattle.ground_tests.proofs.array_lending.set_by_slice.Goals as goal

pub returns : goal.returns
returns c = grind (arith, common_steps)
