use Rattle.std.proofs.Common.{◌≡◌, ℕ, List, ◌*◌, ◌<◌}
use Rattle.sha512_lanes.specs.Lanes.{variables, window}
use Rattle.sha512_lanes.specs.Steps.{IsBefore, block_words}
use Rattle.sha512_lanes.proofs.compression.compressed.Given as goal

abbrev pub invariant-turns : goal.invariant-turns
invariant-turns g l = (j : ℕ) → j < g.W.Word.lanes → (b : List ℕ)
    → window (λ x. g.W.Word.lane x j) l.fn.words ≡ block_words b
    → IsBefore (variables (λ x. g.W.Word.lane x j) l.state) b (16 * l.turn)
    (variables (λ x. g.W.Word.lane x j) l.v) (window (λ x. g.W.Word.lane x j) l.w)
