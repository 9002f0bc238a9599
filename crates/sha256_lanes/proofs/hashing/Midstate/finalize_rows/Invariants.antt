use Rattle.std.proofs.Common.{◌≡◌, ℕ, ◌<◌, [], length, slice_index_or}
use Rattle.sha256_lanes.specs.Eight.{word_in}
use Rattle.sha256_lanes.specs.Lanes.{variables}
use Rattle.sha256_lanes.specs.Sha256.{word_bytes}
use Rattle.sha256_lanes.proofs.hashing.Midstate.finalize_rows.Given as goal

-- the digests so far
abbrev pub invariant-each_lane : goal.invariant-each_lane
invariant-each_lane l = (length l.digests ≡ 8)
    × ((k : ℕ) → k < l.j → slice_index_or l.digests k [] ≡ word_bytes (variables (λ lanes. word_in lanes k) l.state))
