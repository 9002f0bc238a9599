use Rattle.std.proofs.Common.{◌≡◌, ℕ, ◌+◌, ◌<◌, [], ◌++◌, length, slice_index_or, take}
use Rattle.sha256_lanes.specs.Eight.{head_bytes, lane_bytes}
use Rattle.sha256_lanes.proofs.hashing.Midstate.finalize_by_bytes.Given as goal

abbrev pub invariant-each_tail : goal.invariant-each_tail
invariant-each_tail l = (length l.tails ≡ 8)
    × ((k : ℕ) → k < l.j → take (22 + l.n) (slice_index_or l.tails k []) ≡ head_bytes l.heads k ++ take l.n (lane_bytes l.values k))
