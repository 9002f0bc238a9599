use Rattle.std.proofs.Common.{arith}
use Rattle.std.proofs.lemmas.Grind.{common_steps}
use Rattle.hybrid_array.proofs.array.ArrayIndexMutUsize.index_mut.Goals as goal

pub returns : goal.returns
returns g c = grind (arith, common_steps)
