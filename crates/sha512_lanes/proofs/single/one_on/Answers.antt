use Rattle.std.proofs.Common.{arith}
use Rattle.sha512_lanes.proofs.Fours.{joined_left, joined_right}
use Rattle.sha512_lanes.proofs.single.one_on.Goals as goal

pub returns : goal.returns
returns c =
    let xs = c.args.words in
    let ys = c.args.next in
    let four = c.fits-words.0 in (
      joined_left xs ys 1 four (omega arith),
      joined_left xs ys 2 four (omega arith),
      joined_left xs ys 3 four (omega arith),
      joined_right xs ys 4 0 four (omega arith),
    )
