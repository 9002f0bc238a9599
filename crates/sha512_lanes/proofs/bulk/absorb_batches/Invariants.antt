use Rattle.std.proofs.Common.{◌≡◌, ◌-◌, ◌*◌, ◌%◌}
use Rattle.sha2.specs.Sha512.{hash_after}
use Rattle.sha512_lanes.specs.Batches.{IsFilled, batch_at}
use Rattle.sha512_lanes.proofs.bulk.absorb_batches.Given as goal

-- the batches but the last so far, and the schedules of that one
abbrev pub invariant-batches : goal.invariant-batches
invariant-batches l = (l.state ≡ hash_after l.initial.state l.blocks (4 * (l.i - 1)))
    × (l.i % 2 ≡ 1 → IsFilled l.even (batch_at l.blocks (l.i - 1)) 80)
    × ((l.i % 2 ≡ 1 → ⊥) → IsFilled l.odd (batch_at l.blocks (l.i - 1)) 80)
