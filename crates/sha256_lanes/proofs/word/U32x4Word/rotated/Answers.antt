use Rattle.std.specs.Int.{w32}
use Rattle.word_lanes.proofs.Vectors.{lane-rotated}
use Rattle.sha256_lanes.proofs.word.U32x4Word.rotated.Goals as goal

pub returns : goal.returns
returns c j h = lane-rotated w32 4 c.args.k c.requires.0 c.requires.1 c.args.self j c.fits-self h
