use Rattle.std.proofs.Common.{◌∙◌}
use Rattle.sha256_lanes.specs.Lanes.{window}
use Rattle.sha256_lanes.proofs.Schedule.{four_words_done}
use Rattle.sha256_lanes.proofs.compression.four_words.Goals as goal

pub returns : goal.returns
returns g c j l = λ b t is within.
    let w = window (λ x. g.W.Word.lane x j) c.args.w in
    c.moved.ensures j l
    ∙ four_words_done b w t _ _ _ _ within is (c.later_word-w16.ensures j l) (c.later_word-w17.ensures j l) (c.later_word-w18.ensures j l) (c.later_word-w19.ensures j l)
