use Rattle.std.proofs.Common.{arith}
use Rattle.std.proofs.lemmas.Grind.{common_steps}
use Rattle.hybrid_array.proofs.chunks_mut.ChunksMut.get.Goals as goal

pub returns-then-i-count : goal.returns-then-i-count
returns-then-i-count g c = grind (arith, common_steps)

pub returns : goal.returns
returns g c = grind (arith, common_steps)
