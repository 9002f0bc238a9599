use Rattle.std.proofs.Common.{ap, arith}
use Rattle.std.proofs.lemmas.Grind.{common_steps}
use Rattle.sha256_lanes.specs.Lanes.{variables}
use Rattle.sha256_lanes.specs.Sha256.{added_words}
use Rattle.sha256_lanes.proofs.Schedule.{IsBefore_at, compress-rounds_until, window_word}
use Rattle.sha256_lanes.proofs.compression.compressed_from.Goals as goal

pub turns-init : goal.turns-init
turns-init g c = grind (arith, common_steps)

pub turns-preserved : goal.turns-preserved
turns-preserved g c j l b before =
    let h = variables (λ x. g.W.Word.lane x j) c.args.state.now in
    let four = c.four_steps.ensures j l h b (c.turns.invariant j l b before) in
    let eight = c.four_steps-in-turns.ensures j l h b four in
    let twelve = c.four_steps-in-turns-2.ensures j l h b (IsBefore_at h b _ _ _ _ (omega arith) eight) in
    let sixteen = c.four_steps-in-turns-3.ensures j l h b (IsBefore_at h b _ _ _ _ (omega arith) twelve) in
    IsBefore_at h b _ _ _ _ (omega arith) sixteen

pub returns : goal.returns
returns g c j l b before =
    let h = variables (λ x. g.W.Word.lane x j) c.args.state.now in
    let last = IsBefore_at h b _ _ _ 48 (omega (arith, c.turns.auto.turn-end)) (c.turns.invariant j l b before) in
    let w = window_word b _ 48 in
    let four = c.four_rounds-v.ensures j l h b last.0 (w 0 (omega arith) (omega arith) last.1, w 1 (omega arith) (omega arith) last.1, w 2 (omega arith) (omega arith) last.1, w 3 (omega arith) (omega arith) last.1) in
    let eight = c.four_rounds-v-2.ensures j l h b four (w 4 (omega arith) (omega arith) last.1, w 5 (omega arith) (omega arith) last.1, w 6 (omega arith) (omega arith) last.1, w 7 (omega arith) (omega arith) last.1) in
    let twelve = c.four_rounds-v-3.ensures j l h b eight (w 8 (omega arith) (omega arith) last.1, w 9 (omega arith) (omega arith) last.1, w 10 (omega arith) (omega arith) last.1, w 11 (omega arith) (omega arith) last.1) in
    let sixteen = c.four_rounds-v-4.ensures j l h b twelve (w 12 (omega arith) (omega arith) last.1, w 13 (omega arith) (omega arith) last.1, w 14 (omega arith) (omega arith) last.1, w 15 (omega arith) (omega arith) last.1) in
    rw (
      c.sum.ensures j l,
      c.sum-2.ensures j l,
      c.sum-3.ensures j l,
      c.sum-4.ensures j l,
      c.sum-5.ensures j l,
      c.sum-6.ensures j l,
      c.sum-7.ensures j l,
      c.sum-8.ensures j l,
      compress-rounds_until,
    ) (ap (added_words h) sixteen)
