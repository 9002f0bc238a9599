use Rattle.std.proofs.Common.{arith, replicate, List, ℕ}
use Rattle.sha512_lanes.proofs.Fours.{joined_left, joined_right}
use Rattle.sha512_lanes.proofs.single.last_two.Goals as goal

pub returns : goal.returns
returns c =
    let xs = c.args.words in
    let zeros : List ℕ = replicate 4 0 in
    let four = c.fits-words.0 in (
      joined_left xs zeros 2 four (omega arith),
      joined_left xs zeros 3 four (omega arith),
      joined_right xs zeros 4 0 four (omega arith),
      joined_right xs zeros 5 1 four (omega arith),
    )
