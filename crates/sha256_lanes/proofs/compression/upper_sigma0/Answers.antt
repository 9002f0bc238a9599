use Rattle.std.proofs.Common.{arith}
use Rattle.sha256_lanes.proofs.Words.{turned_three}
use Rattle.sha256_lanes.proofs.compression.upper_sigma0.Goals as goal

pub returns : goal.returns
returns g c j h =
    rw (c.rotated-3.ensures j h, c.xor-2.ensures j h, c.rotated-2.ensures j h, c.xor.ensures j h, c.rotated.ensures j h)
    (turned_three (g.W.Word.lane c.args.x j) 2 11 9 (omega arith) (g.met.W.Word.lane_lt c.args.x j))
