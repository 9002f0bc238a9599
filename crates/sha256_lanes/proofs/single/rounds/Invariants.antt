use Rattle.std.proofs.Common.{◌≡◌, ◌*◌, List, ℕ}
use Rattle.sha256_lanes.specs.Lanes.{variables}
use Rattle.sha256_lanes.specs.Rounds.{IsBefore, block_words}
use Rattle.sha256_lanes.specs.Single.{fours}
use Rattle.sha256_lanes.proofs.single.rounds.Given as goal

-- the rounds so far
abbrev pub invariant-turns : goal.invariant-turns
invariant-turns l = (b : List ℕ) → fours l.fn.w ≡ block_words b
    → IsBefore (variables (λ x. x) l.fn.v) b (16 * l.turn) (variables (λ x. x) l.u) (fours l.w)
