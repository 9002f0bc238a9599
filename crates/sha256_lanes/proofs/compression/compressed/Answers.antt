use Rattle.std.proofs.Common.{◌∙◌}
use Rattle.sha256_lanes.proofs.Schedule.{block_words_are, rounds_until_none}
use Rattle.sha256_lanes.proofs.compression.compressed.Goals as goal

pub returns : goal.returns
returns g c j l b same = c.compressed_from.ensures j l b (rounds_until_none _ b, same ∙ block_words_are b)
