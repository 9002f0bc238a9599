use Rattle.std.proofs.Common.{List, ℕ, ap, sym, ◌∙◌}
use Rattle.sha2.specs.Sha512.{add_state}
use Rattle.sha512_lanes.specs.Lanes.{variables}
use Rattle.sha512_lanes.proofs.Schedule.{compress-rounds}
use Rattle.sha512_lanes.proofs.bulk.sums.Goals as goal

pub returns : goal.returns
returns c b done =
    let h : List ℕ = variables (λ x. x) c.args.s in
    ap (add_state h) done ∙ sym (compress-rounds h b)
