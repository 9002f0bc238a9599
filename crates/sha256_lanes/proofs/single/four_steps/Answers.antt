use Rattle.std.proofs.Common.{◌≡◌, ◌+◌, ◌∙◌, ap, arith, slice_index}
use Rattle.sha256_lanes.specs.Sha256.{schedule}
use Rattle.sha256_lanes.proofs.Schedule.{window_word}
use Rattle.sha256_lanes.proofs.single.four_steps.Goals as goal

pub returns : goal.returns
returns c = λ h b before.
    let t = c.args.t in
    let w = window_word b _ t in
    let place : t + 0 ≡ t = omega arith in (
      c.four_rounds.ensures h b before.0 (
        w 0 (omega arith) (omega arith) before.1 ∙ ap (slice_index (schedule b 64)) place,
        w 1 (omega arith) (omega arith) before.1,
        w 2 (omega arith) (omega arith) before.1,
        w 3 (omega arith) (omega arith) before.1,
      ),
      c.four_on.ensures b t before.1 c.requires,
    )
