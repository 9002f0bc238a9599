use Rattle.std.proofs.Common.{arith, ap, ◌∙◌}
use Rattle.sha256_lanes.specs.Batches.{block_in}
use Rattle.sha256_lanes.specs.Lanes.{variables}
use Rattle.sha256_lanes.specs.Rounds.{rounds_until}
use Rattle.sha256_lanes.proofs.Schedule.{rounds_until_none}
use Rattle.sha256_lanes.proofs.bulk.lone_turn.Goals as goal

pub groups-init : goal.groups-init
groups-init c = λ p filled. rounds_until_none _ (block_in p c.args.j)

pub groups-preserved : goal.groups-preserved
groups-preserved c = λ p filled.
    let h = variables (λ x. x) c.args.s in
    c.eight_rounds-v.ensures h p filled (c.groups.invariant p filled) ∙ ap (rounds_until h (block_in p c.args.j)) (omega arith)

pub returns : goal.returns
returns c = λ p filled.
    c.sums.ensures (block_in p c.args.j) (c.groups.invariant p filled ∙ ap (rounds_until (variables (λ x. x) c.args.s) (block_in p c.args.j)) (omega arith))
