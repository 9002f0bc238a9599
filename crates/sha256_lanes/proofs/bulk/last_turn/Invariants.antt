use Rattle.std.proofs.Common.{◌≡◌, List, ℕ}
use Rattle.sha256_lanes.specs.Batches.{IsFilled}
use Rattle.sha256_lanes.specs.Lanes.{variables}
use Rattle.sha256_lanes.specs.Sha256.{fold_blocks}
use Rattle.sha256_lanes.proofs.bulk.last_turn.Given as goal

-- the blocks so far
abbrev pub invariant-last_blocks : goal.invariant-last_blocks
invariant-last_blocks l = (p : List ℕ) → IsFilled l.now p 64 → variables (λ x. x) l.s ≡ fold_blocks l.fn.state p l.j
