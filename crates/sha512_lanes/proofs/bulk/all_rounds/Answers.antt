use Rattle.std.proofs.Common.{arith, ap, ◌∙◌}
use Rattle.sha2.specs.Sha512.{rounds, schedule}
use Rattle.sha512_lanes.specs.Batches.{block_in}
use Rattle.sha512_lanes.specs.Lanes.{variables}
use Rattle.sha512_lanes.proofs.Schedule.{rounds_none}
use Rattle.sha512_lanes.proofs.bulk.all_rounds.Goals as goal

pub groups-init : goal.groups-init
groups-init c = λ p filled. rounds_none _ (block_in p c.args.j)

pub groups-preserved : goal.groups-preserved
groups-preserved c = λ p filled.
    let h = variables (λ x. x) c.args.v in
    c.eight_rounds-v.ensures h p filled (c.groups.invariant p filled) ∙ ap (rounds h (schedule (block_in p c.args.j) 64)) (omega arith)

pub returns : goal.returns
returns c = λ p filled.
    c.groups.invariant p filled ∙ ap (rounds (variables (λ x. x) c.args.v) (schedule (block_in p c.args.j) 64)) (omega arith)
