use Rattle.std.proofs.Common.{◌≡◌, ℕ, [], slice_index_or, ◌<◌, length}
use Rattle.sha256_lanes.specs.Sha256.{word_bytes}
use Rattle.sha256_lanes.proofs.hashing.digests_of.Given as goal

abbrev pub invariant-each_digest : goal.invariant-each_digest
invariant-each_digest g l = (length l.digests ≡ g.row.N)
    × ((k : ℕ) → k < l.j → slice_index_or l.digests k [] ≡ word_bytes (slice_index_or l.fn.words k []))
