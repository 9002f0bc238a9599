use Rattle.std.proofs.Common.{◌≡◌, ℕ, ◌*◌, ◌<◌, [], ◌++◌, drop, length, slice_index_or, take}
use Rattle.sha256_lanes.specs.Sha256.{padding}
use Rattle.sha256_lanes.proofs.rows.blocks_at.Given as goal

-- the blocks so far
abbrev pub invariant-each_row : goal.invariant-each_row
invariant-each_row l = (length l.blocks ≡ 8)
    × ((k : ℕ) → k < l.j → slice_index_or l.blocks k [] ≡ take 64 (drop (64 * l.b) (take l.len (drop (k * l.len) l.fn.rows) ++ padding l.total)))
