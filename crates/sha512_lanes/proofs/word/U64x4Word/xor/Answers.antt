use Rattle.std.specs.Int.{w64}
use Rattle.word_lanes.proofs.Vectors.{lane-xor}
use Rattle.sha512_lanes.proofs.word.U64x4Word.xor.Goals as goal

pub returns : goal.returns
returns c j h = lane-xor w64 4 c.args.self c.args.other j c.fits-self c.fits-other h
