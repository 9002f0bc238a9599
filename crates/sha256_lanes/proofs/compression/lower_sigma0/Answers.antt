use Rattle.std.proofs.Common.{ℕ, ◌/◌, ◌^◌, bit_xor, ap, arith}
use Rattle.sha256_lanes.proofs.Words.{turned_two}
use Rattle.sha256_lanes.proofs.compression.lower_sigma0.Goals as goal

pub returns : goal.returns
returns g c j h =
    let x = g.W.Word.lane c.args.x j in
    rw (c.xor-2.ensures j h, c.rotated-2.ensures j h, c.shifted.ensures j h, c.xor.ensures j h, c.rotated.ensures j h)
    (ap (λ (y : ℕ). bit_xor y (x / 2 ^ 3)) (turned_two x 7 11 (omega arith) (g.met.W.Word.lane_lt c.args.x j)))
