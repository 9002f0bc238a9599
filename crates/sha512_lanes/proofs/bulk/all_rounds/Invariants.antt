use Rattle.std.proofs.Common.{◌≡◌, ◌*◌, List, ℕ}
use Rattle.sha2.specs.Sha512.{rounds, schedule}
use Rattle.sha512_lanes.specs.Batches.{IsFilled, block_in}
use Rattle.sha512_lanes.specs.Lanes.{variables}
use Rattle.sha512_lanes.proofs.bulk.all_rounds.Given as goal

-- the rounds so far
abbrev pub invariant-groups : goal.invariant-groups
invariant-groups l = (p : List ℕ) → IsFilled l.now p 80
    → variables (λ x. x) l.v ≡ rounds (variables (λ x. x) l.initial.v) (schedule (block_in p l.j) 64) (8 * l.k)
