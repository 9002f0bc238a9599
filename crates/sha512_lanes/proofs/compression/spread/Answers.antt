use Rattle.std.proofs.Common.{arith}
use Rattle.std.proofs.lemmas.Grind.{elements}
use Rattle.sha512_lanes.proofs.compression.spread.Goals as goal

pub returns : goal.returns
returns g c = grind (arith, elements)
