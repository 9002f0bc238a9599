use Rattle.std.proofs.Common.{◌≡◌, ◌*◌, List, ℕ}
use Rattle.sha256_lanes.specs.Batches.{IsFilled, block_in}
use Rattle.sha256_lanes.specs.Lanes.{variables}
use Rattle.sha256_lanes.specs.Rounds.{rounds_until}
use Rattle.sha256_lanes.proofs.bulk.lone_turn.Given as goal

-- the rounds so far
abbrev pub invariant-groups : goal.invariant-groups
invariant-groups l = (p : List ℕ) → IsFilled l.now p 64
    → variables (λ x. x) l.v ≡ rounds_until (variables (λ x. x) l.s) (block_in p l.j) (8 * l.k)
