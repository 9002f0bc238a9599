use Rattle.std.proofs.Common.{◌≡◌, ◌<◌, ◌%◌, ◌^◌, ℕ, [], slice_index, slice_index_or}
use Rattle.sha2.specs.Sha512.{hash_after}
use Rattle.sha512_lanes.specs.Lanes.{variables}
use Rattle.sha512_lanes.proofs.rows.fold_rows.Given as goal

-- the words after the blocks so far
abbrev pub invariant-each_block : goal.invariant-each_block
invariant-each_block l = (j : ℕ) → j < 4
    → variables (λ x. slice_index x j % 2 ^ 64) l.state ≡ hash_after l.fn.words (slice_index_or l.fn.padded j []) l.b
