use Rattle.sha256_lanes.specs.Lanes.{variables}
use Rattle.sha256_lanes.proofs.Schedule.{round_word}
use Rattle.sha256_lanes.proofs.compression.with_word.Goals as goal

pub returns : goal.returns
returns g c j h = λ u k made.
    rw (c.sum.ensures j h, c.sum-2.ensures j h)
    (round_word (variables (λ x. g.W.Word.lane x j) c.args.v) u k (g.W.Word.lane c.args.word j) made)
