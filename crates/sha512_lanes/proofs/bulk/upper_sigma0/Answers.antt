use Rattle.std.proofs.Common.{◌<◌, ◌^◌, ℕ, ap, arith, bit_xor}
use Rattle.std.specs.Int.{rotate_right, w64}
use Rattle.sha512_lanes.proofs.Words.{turned_two}
use Rattle.sha512_lanes.proofs.bulk.upper_sigma0.Goals as goal

pub returns : goal.returns
returns c =
    let x = c.args.x in
    let fits : x < 2 ^ 64 = omega arith in
    rw (c.rotate_right-2.ensures, c.rotate_right.ensures, c.rotate_right-3.ensures)
    (ap (λ (y : ℕ). bit_xor y (rotate_right w64 x 39)) (turned_two x 28 6 (omega arith) fits))
