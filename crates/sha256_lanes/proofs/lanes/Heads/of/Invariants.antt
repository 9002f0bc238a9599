use Rattle.std.proofs.Common.{◌≡◌, ℕ, ◌-◌, ◌<◌, [], ◌++◌, length, replicate, slice_index_or}
use Rattle.sha256_lanes.specs.Eight.{IsBlock}
use Rattle.sha256_lanes.proofs.lanes.Heads.of.Given as goal

abbrev pub invariant-each_head : goal.invariant-each_head
invariant-each_head l = (length l.blocks ≡ 8)
    × ((k : ℕ) → k < l.j → IsBlock (slice_index_or l.blocks k []))
    × ((k : ℕ) → k < l.j → slice_index_or l.blocks k [] ≡ slice_index_or l.fn.heads k [] ++ replicate (64 - length (slice_index_or l.fn.heads k [])) 0)
    × ((k : ℕ) → k < l.j → length (slice_index_or l.fn.heads k []) ≡ 22)
