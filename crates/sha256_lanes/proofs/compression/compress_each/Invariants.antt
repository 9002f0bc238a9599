use Rattle.std.proofs.Common.{◌≡◌, ℕ, [], slice_index_or, ◌<◌, length}
use Rattle.sha256_lanes.specs.Sha256.{compress}
use Rattle.sha256_lanes.proofs.compression.compress_each.Given as goal

abbrev pub invariant-rows : goal.invariant-rows
invariant-rows g l = (length l.rows ≡ g.row.N)
    × ((m : ℕ) → m < l.j → slice_index_or l.rows m [] ≡ compress l.fn.state (slice_index_or l.fn.blocks m []))
