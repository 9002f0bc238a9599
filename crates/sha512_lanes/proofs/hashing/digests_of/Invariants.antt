use Rattle.std.proofs.Common.{◌≡◌, ℕ, [], slice_index_or, ◌<◌, length}
use Rattle.sha2.specs.Sha512.{digest_bytes}
use Rattle.sha512_lanes.proofs.hashing.digests_of.Given as goal

-- the digests so far
abbrev pub invariant-each_digest : goal.invariant-each_digest
invariant-each_digest g l = (length l.digests ≡ g.row.N)
    × ((k : ℕ) → k < l.j → slice_index_or l.digests k [] ≡ digest_bytes (slice_index_or l.fn.words k []) 8)
