-- The lines of one receipt more.
use Rattle.std.proofs.Common.{◌≡◌, ℕ, suc, ◌+◌, List, [], ◌++◌, refl, arith}
use Rattle.std.specs.Prelude.{codes}
use Rattle.line_serve.specs.Texts.{hex_line}
use Rattle.slh_batch.specs.Receipts.{receipt_of}
use Rattle.slh_batch_cli.specs.Replies.{receipt_lines}

pub lines_none : (q : List (List ℕ)) (sig : List ℕ) → receipt_lines q sig 0 ≡ []
unfolding receipt_lines
lines_none q sig = refl

pub lines_more : (q : List (List ℕ)) (sig : List ℕ) (k : ℕ)
    → receipt_lines q sig (k + 1)
    ≡ receipt_lines q sig k ++ hex_line (codes "receipt ") (receipt_of q sig k)
unfolding receipt_lines
lines_more q sig k = let more : k + 1 ≡ suc k = omega arith in rw more refl
