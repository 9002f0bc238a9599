use Rattle.std.proofs.Common.{arith, ap, ◌∙◌}
use Rattle.sha2.specs.Sha512.{rounds, schedule}
use Rattle.sha512_lanes.specs.Batches.{block_in}
use Rattle.sha512_lanes.specs.Lanes.{variables}
use Rattle.sha512_lanes.proofs.Batches.{filled_at, filled_none}
use Rattle.sha512_lanes.proofs.Schedule.{rounds_none}
use Rattle.sha512_lanes.proofs.bulk.first_rounds.Goals as goal

pub groups-init : goal.groups-init
groups-init c = (λ p filled. rounds_none _ (block_in p 0), filled_none c.args.next.now c.args.blocks.now)

pub groups-preserved : goal.groups-preserved
groups-preserved c = (
  λ p filled.
      let h = variables (λ x. x) c.args.v in
      c.eight_rounds-v.ensures h p filled (c.groups.invariant.0 p filled) ∙ ap (rounds h (schedule (block_in p 0) 64)) (omega arith),
  (let one = c.put_first.ensures c.groups.invariant.1 in filled_at _ _ _ _ (omega arith) (c.put_first-in-groups.ensures one)),
)

pub returns-clause-value : goal.returns-clause-value
returns-clause-value c = λ p filled.
    c.groups.invariant.0 p filled ∙ ap (rounds (variables (λ x. x) c.args.v) (schedule (block_in p 0) 64)) (omega arith)

pub returns-clause-next : goal.returns-clause-next
returns-clause-next c = filled_at _ _ _ _ (omega arith) c.groups.invariant.1
