use Rattle.std.proofs.Common.{◌∙◌, arith}
use Rattle.sha512_lanes.specs.Lanes.{variables}
use Rattle.sha512_lanes.proofs.Schedule.{IsBefore_at, block_words_are, rounds_none, window_word}
use Rattle.sha512_lanes.proofs.single.all_rounds.Goals as goal

pub turns-init : goal.turns-init
turns-init c = λ b is. (rounds_none _ b, is ∙ block_words_are b)

pub turns-preserved : goal.turns-preserved
turns-preserved c = λ b is.
    let h = variables (λ x. x) c.args.v in
    let four = c.four_steps.ensures h b (c.turns.invariant b is) in
    let eight = c.four_steps-in-turns.ensures h b four in
    let twelve = c.four_steps-in-turns-2.ensures h b (IsBefore_at h b _ _ _ _ (omega arith) eight) in
    let sixteen = c.four_steps-in-turns-3.ensures h b (IsBefore_at h b _ _ _ _ (omega arith) twelve) in
    IsBefore_at h b _ _ _ _ (omega arith) sixteen

pub returns : goal.returns
returns c = λ b is.
    let h = variables (λ x. x) c.args.v in
    let last = IsBefore_at h b _ _ _ 64 (omega (arith, c.turns.auto.turn-end)) (c.turns.invariant b is) in
    let w = window_word b _ 64 in
    let four = c.four_rounds-u.ensures h b last.0 (w 0 (omega arith) (omega arith) last.1, w 1 (omega arith) (omega arith) last.1, w 2 (omega arith) (omega arith) last.1, w 3 (omega arith) (omega arith) last.1) in
    let eight = c.four_rounds-u-2.ensures h b four (w 4 (omega arith) (omega arith) last.1, w 5 (omega arith) (omega arith) last.1, w 6 (omega arith) (omega arith) last.1, w 7 (omega arith) (omega arith) last.1) in
    let twelve = c.four_rounds-u-3.ensures h b eight (w 8 (omega arith) (omega arith) last.1, w 9 (omega arith) (omega arith) last.1, w 10 (omega arith) (omega arith) last.1, w 11 (omega arith) (omega arith) last.1) in
    c.four_rounds.ensures h b twelve (w 12 (omega arith) (omega arith) last.1, w 13 (omega arith) (omega arith) last.1, w 14 (omega arith) (omega arith) last.1, w 15 (omega arith) (omega arith) last.1)
