use Rattle.std.proofs.lemmas.List.{drop-replicate}
use Rattle.word_lanes.proofs.Blocks.{joined_same}
use Rattle.sha256_lanes.proofs.blocks.zero_padded.Goals as goal

pub returns : goal.returns
returns c = joined_same _ _ _ _ c.copy_from_slice.ensures.after (drop-replicate _ 64 0)
