use Rattle.std.specs.Int.{w32}
use Rattle.word_lanes.proofs.Vectors.{lane-and}
use Rattle.sha256_lanes.proofs.word.U32x8Word.and.Goals as goal

pub returns : goal.returns
returns c j h = lane-and w32 8 c.args.self c.args.other j c.fits-self c.fits-other h
