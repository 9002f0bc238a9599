use Rattle.std.proofs.Common.{arith}
use Rattle.std.proofs.lemmas.Grind.{common_steps}
use Rattle.sha256_lanes.proofs.blocks.word_bytes.Goals as goal

pub each_word-preserved : goal.each_word-preserved
each_word-preserved c = grind (arith, common_steps)

pub returns : goal.returns
returns c = grind (arith, common_steps)
