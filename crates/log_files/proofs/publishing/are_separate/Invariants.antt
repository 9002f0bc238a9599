use Rattle.std.proofs.Common.{◌≡◌, ◌<◌, ℕ, Some, slice_get}
use Rattle.log_files.specs.Publishing.{IsSeparate}
use Rattle.log_files.specs.declared.publishing.Piece.{Piece}
use Rattle.log_files.proofs.publishing.are_separate.Given as goal

abbrev pub invariant-loop-i : goal.invariant-loop-i
invariant-loop-i l = (j : ℕ) (p : Piece) → j < l.i → slice_get l.fn.pieces j ≡ Some p → IsSeparate p
