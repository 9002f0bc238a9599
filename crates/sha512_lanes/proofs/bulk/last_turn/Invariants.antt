use Rattle.std.proofs.Common.{◌≡◌, List, ℕ}
use Rattle.sha2.specs.Sha512.{hash_after}
use Rattle.sha512_lanes.specs.Batches.{IsFilled}
use Rattle.sha512_lanes.specs.Lanes.{variables}
use Rattle.sha512_lanes.proofs.bulk.last_turn.Given as goal

-- the blocks so far
abbrev pub invariant-last_blocks : goal.invariant-last_blocks
invariant-last_blocks l = (p : List ℕ) → IsFilled l.now p 80 → variables (λ x. x) l.s ≡ hash_after l.initial.state p l.j
