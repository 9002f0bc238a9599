use Rattle.std.proofs.Common.{◌≡◌, ℕ, ◌*◌, ◌<◌, ◌++◌, drop, take}
use Rattle.sha256_lanes.specs.Eight.{word_in}
use Rattle.sha256_lanes.specs.Lanes.{variables}
use Rattle.sha256_lanes.specs.Sha256.{fold_blocks, padding}
use Rattle.sha256_lanes.proofs.rows.fold_rows.Given as goal

-- the words after the blocks so far
abbrev pub invariant-each_block : goal.invariant-each_block
invariant-each_block l = (j : ℕ) → j < 8
    → variables (λ lanes. word_in lanes j) l.state ≡ fold_blocks l.fn.words (take l.len (drop (j * l.len) l.fn.rows) ++ padding l.total) l.b
