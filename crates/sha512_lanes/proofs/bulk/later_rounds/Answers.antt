use Rattle.std.proofs.Common.{arith, ap, ◌∙◌}
use Rattle.sha2.specs.Sha512.{rounds, schedule}
use Rattle.sha512_lanes.specs.Batches.{block_in}
use Rattle.sha512_lanes.proofs.Batches.{filled_at}
use Rattle.sha512_lanes.proofs.bulk.later_rounds.Goals as goal

pub groups-init : goal.groups-init
groups-init c = (λ h p filled before. before, λ q filled. filled)

pub groups-preserved : goal.groups-preserved
groups-preserved c = (
  λ h p filled before.
      c.eight_rounds-v.ensures h p filled (c.groups.invariant.0 h p filled before)
      ∙ ap (rounds h (schedule (block_in p c.args.j) 64)) (omega arith),
  λ q filled.
      let one = c.put_later.ensures q (c.groups.invariant.1 q filled) in
      filled_at _ _ _ _ (omega arith) (c.put_later-in-groups.ensures q one),
)

pub returns-clause-value : goal.returns-clause-value
returns-clause-value c = λ h p filled before.
    c.groups.invariant.0 h p filled before ∙ ap (rounds h (schedule (block_in p c.args.j) 64)) (omega (arith, c.requires.high))

pub returns-clause-next : goal.returns-clause-next
returns-clause-next c = λ q filled. filled_at _ _ _ _ (omega (arith, c.requires.high)) (c.groups.invariant.1 q filled)
