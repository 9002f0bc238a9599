use Rattle.std.proofs.Common.{◌≡◌, ◌+◌, ◌*◌, List, ℕ}
use Rattle.sha2.specs.Sha512.{rounds, schedule}
use Rattle.sha512_lanes.specs.Batches.{IsFilled, block_in}
use Rattle.sha512_lanes.specs.Lanes.{variables}
use Rattle.sha512_lanes.proofs.bulk.later_rounds.Given as goal

-- the rounds so far, and the words that were put
abbrev pub invariant-groups : goal.invariant-groups
invariant-groups l = ((h p : List ℕ) → IsFilled l.now p 80
    → variables (λ x. x) l.initial.v ≡ rounds h (schedule (block_in p l.j) 64) (8 * l.from)
    → variables (λ x. x) l.v ≡ rounds h (schedule (block_in p l.j) 64) (8 * l.k))
    × ((q : List ℕ) → IsFilled l.initial.next q (20 * l.j + 2 * l.from) → IsFilled l.next q (20 * l.j + 2 * l.k))
