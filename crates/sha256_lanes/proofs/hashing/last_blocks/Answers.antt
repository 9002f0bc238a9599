use Rattle.std.proofs.Common.{arith}
use Rattle.std.proofs.lemmas.Grind.{common_steps}
use Rattle.sha256_lanes.proofs.hashing.last_blocks.Goals as goal

pub returns : goal.returns
returns g c = grind (arith, common_steps)
