use Rattle.std.proofs.Common.{arith}
use Rattle.std.proofs.lemmas.Grind.{common_steps}
use Rattle.hybrid_array.proofs.lending.whole_mut.Goals as goal

pub returns-then-slice-USIZE : goal.returns-then-slice-USIZE
returns-then-slice-USIZE g c = grind (arith, common_steps)

pub returns : goal.returns
returns g c = grind (arith, common_steps)
