use Rattle.std.proofs.Common.{arith}
use Rattle.std.proofs.lemmas.Grind.{elements}
use Rattle.block_buffer.proofs.read.ReadBuffer.read_cached.Goals as goal

pub returns : goal.returns
returns g c = grind (arith, elements)
