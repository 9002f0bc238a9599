use Rattle.std.proofs.Common.{arith, ap, ◌∙◌}
use Rattle.sha256_lanes.specs.Batches.{block_in}
use Rattle.sha256_lanes.specs.Lanes.{variables}
use Rattle.sha256_lanes.specs.Rounds.{rounds_until}
use Rattle.sha256_lanes.proofs.Batches.{filled_at}
use Rattle.sha256_lanes.proofs.Schedule.{rounds_until_none}
use Rattle.sha256_lanes.proofs.bulk.later_turn.Goals as goal

pub groups-init : goal.groups-init
groups-init c = (
  λ p filled. rounds_until_none _ (block_in p c.args.j),
  λ q filled. filled_at _ _ _ _ (omega arith) filled,
)

pub groups-preserved : goal.groups-preserved
groups-preserved c = (
  λ p filled.
      let h = variables (λ x. x) c.args.s in
      c.eight_rounds-v.ensures h p filled (c.groups.invariant.0 p filled) ∙ ap (rounds_until h (block_in p c.args.j)) (omega arith),
  λ q filled. filled_at _ _ _ _ (omega arith) (c.put_later.ensures q (c.groups.invariant.1 q filled)),
)

pub returns-clause-value : goal.returns-clause-value
returns-clause-value c = λ p filled.
    c.sums.ensures (block_in p c.args.j) (c.groups.invariant.0 p filled ∙ ap (rounds_until (variables (λ x. x) c.args.s) (block_in p c.args.j)) (omega arith))

pub returns-clause-next : goal.returns-clause-next
returns-clause-next c = λ q filled. filled_at _ _ _ _ (omega arith) (c.groups.invariant.1 q filled)
