use Rattle.std.proofs.Common.{◌≡◌, ◌+◌, ◌++◌, ℕ, [], slice_index_or, ◌<◌, length, take}
use Rattle.sha256_lanes.specs.Sha256.{padding}
use Rattle.sha256_lanes.proofs.hashing.last_blocks.Given as goal

-- the blocks so far
abbrev pub invariant-each_tail : goal.invariant-each_tail
invariant-each_tail g l = (length l.blocks ≡ g.row.N)
    × ((k : ℕ) → k < l.j → slice_index_or l.blocks k [] ≡ take l.len (slice_index_or l.fn.tails k []) ++ padding (64 + l.len))
    × ((k : ℕ) → k < l.j → length (take l.len (slice_index_or l.fn.tails k [])) ≡ l.len)
