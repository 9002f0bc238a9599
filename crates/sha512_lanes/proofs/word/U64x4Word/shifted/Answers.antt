use Rattle.std.specs.Int.{w64}
use Rattle.word_lanes.proofs.Vectors.{lane-shifted}
use Rattle.sha512_lanes.proofs.word.U64x4Word.shifted.Goals as goal

pub returns : goal.returns
returns c j h = lane-shifted w64 4 c.args.k c.args.self j c.fits-self h
