use Rattle.std.proofs.Common.{arith}
use Rattle.std.proofs.lemmas.Grind.{common_steps}
use Rattle.hybrid_array.proofs.lending.first_and_rest_mut.Goals as goal

pub returns-then-size-slice : goal.returns-then-size-slice
returns-then-size-slice g c = grind (arith, common_steps)

pub returns : goal.returns
returns g c = grind (arith, common_steps)
