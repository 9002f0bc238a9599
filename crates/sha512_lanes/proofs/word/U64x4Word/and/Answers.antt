use Rattle.std.specs.Int.{w64}
use Rattle.word_lanes.proofs.Vectors.{lane-and}
use Rattle.sha512_lanes.proofs.word.U64x4Word.and.Goals as goal

pub returns : goal.returns
returns c j h = lane-and w64 4 c.args.self c.args.other j c.fits-self c.fits-other h
