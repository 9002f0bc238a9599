use Rattle.std.specs.Int.{w32}
use Rattle.word_lanes.proofs.Vectors.{lane-shifted}
use Rattle.sha256_lanes.proofs.word.U32x4Word.shifted.Goals as goal

pub returns : goal.returns
returns c j h = lane-shifted w32 4 c.args.k c.args.self j c.fits-self h
