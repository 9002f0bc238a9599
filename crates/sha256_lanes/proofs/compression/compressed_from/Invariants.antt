use Rattle.std.proofs.Common.{ℕ, List, ◌*◌, ◌<◌}
use Rattle.sha256_lanes.specs.Lanes.{variables, window}
use Rattle.sha256_lanes.specs.Rounds.{IsBefore}
use Rattle.sha256_lanes.proofs.compression.compressed_from.Given as goal

abbrev pub invariant-turns : goal.invariant-turns
invariant-turns g l = (j : ℕ) → j < g.W.Word.lanes → (b : List ℕ)
    → IsBefore (variables (λ x. g.W.Word.lane x j) l.state) b (16 * l.from)
    (variables (λ x. g.W.Word.lane x j) l.fn.v) (window (λ x. g.W.Word.lane x j) l.fn.w)
    → IsBefore (variables (λ x. g.W.Word.lane x j) l.state) b (16 * l.turn)
    (variables (λ x. g.W.Word.lane x j) l.v) (window (λ x. g.W.Word.lane x j) l.w)
