use Rattle.std.proofs.Common.{arith}
use Rattle.sha512_lanes.specs.Hash.{counted}
use Rattle.sha512_lanes.proofs.hash.Count.add.Goals as goal

pub returns : goal.returns
unfolding counted
returns c = omega (arith, c.value.ensures)
