use Rattle.std.proofs.Common.{List, ℕ, ap, sym, ◌∙◌}
use Rattle.sha256_lanes.specs.Lanes.{variables}
use Rattle.sha256_lanes.specs.Sha256.{added_words}
use Rattle.sha256_lanes.proofs.Schedule.{compress-rounds_until}
use Rattle.sha256_lanes.proofs.bulk.sums.Goals as goal

pub returns : goal.returns
returns c b done =
    let h : List ℕ = variables (λ x. x) c.args.s in
    ap (added_words h) done ∙ sym (compress-rounds_until h b)
