use Rattle.std.proofs.Common.{◌≡◌, ◌*◌, List, ℕ}
use Rattle.sha512_lanes.specs.Lanes.{variables}
use Rattle.sha512_lanes.specs.Steps.{IsBefore, block_words}
use Rattle.sha512_lanes.specs.Single.{fours}
use Rattle.sha512_lanes.proofs.single.all_rounds.Given as goal

-- the rounds so far
abbrev pub invariant-turns : goal.invariant-turns
invariant-turns l = (b : List ℕ) → fours l.fn.w ≡ block_words b
    → IsBefore (variables (λ x. x) l.fn.v) b (16 * l.turn) (variables (λ x. x) l.u) (fours l.w)
