use Rattle.std.proofs.Common.{◌≡◌, ◌*◌, List, ℕ}
use Rattle.sha2.specs.Sha512.{hash_after}
use Rattle.sha512_lanes.specs.Batches.{IsFilled}
use Rattle.sha512_lanes.specs.Lanes.{variables}
use Rattle.sha512_lanes.proofs.bulk.turn.Given as goal

-- the blocks so far, and the words that were put
abbrev pub invariant-later_blocks : goal.invariant-later_blocks
invariant-later_blocks l = ((p : List ℕ) → IsFilled l.now p 80 → variables (λ x. x) l.s ≡ hash_after l.fn.state p l.j)
    × IsFilled l.next l.blocks (20 * l.j)
