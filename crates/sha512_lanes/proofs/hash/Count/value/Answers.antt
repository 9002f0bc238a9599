use Rattle.std.proofs.Common.{arith}
use Rattle.sha512_lanes.specs.Hash.{counted}
use Rattle.sha512_lanes.proofs.hash.Count.value.Goals as goal

pub returns : goal.returns
unfolding counted
returns c = omega (arith, c.from.ensures, c.from-2.ensures)
