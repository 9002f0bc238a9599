use Rattle.std.proofs.Common.{◌≡◌, ◌*◌, List, ℕ}
use Rattle.sha256_lanes.specs.Batches.{IsFilled}
use Rattle.sha256_lanes.specs.Lanes.{variables}
use Rattle.sha256_lanes.specs.Sha256.{fold_blocks}
use Rattle.sha256_lanes.proofs.bulk.turn.Given as goal

-- the blocks so far, and the words that were put
abbrev pub invariant-later_blocks : goal.invariant-later_blocks
invariant-later_blocks l = ((p : List ℕ) → IsFilled l.now p 64 → variables (λ x. x) l.s ≡ fold_blocks l.fn.state p l.j)
    × IsFilled l.next l.blocks (8 * l.j)
