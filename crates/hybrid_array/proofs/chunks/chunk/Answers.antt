use Rattle.std.proofs.Common.{arith}
use Rattle.std.proofs.lemmas.Grind.{common_steps}
use Rattle.hybrid_array.proofs.chunks.chunk.Goals as goal

pub returns : goal.returns
returns g c = grind (arith, common_steps)
