use Rattle.std.proofs.Common.{◌≡◌, ◌-◌, ◌*◌, ◌%◌}
use Rattle.sha256_lanes.specs.Batches.{IsFilled, batch_at}
use Rattle.sha256_lanes.specs.Sha256.{fold_blocks}
use Rattle.sha256_lanes.proofs.bulk.absorb_batches.Given as goal

-- the batches but the last so far, and the schedules of that one
abbrev pub invariant-batches : goal.invariant-batches
invariant-batches l = (l.state ≡ fold_blocks l.initial.state l.blocks (8 * (l.i - 1)))
    × (l.i % 2 ≡ 1 → IsFilled l.even (batch_at l.blocks (l.i - 1)) 64)
    × ((l.i % 2 ≡ 1 → ⊥) → IsFilled l.odd (batch_at l.blocks (l.i - 1)) 64)
