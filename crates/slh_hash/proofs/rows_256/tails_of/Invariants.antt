use Rattle.std.proofs.Common.{◌≡◌, ◌+◌, ◌<◌, ◌++◌, ℕ, [], length, min, slice_index, slice_index_or, take}
use Rattle.slh_core.specs.Address.{compressed_address}
use Rattle.slh_core.specs.Bytes.{part}
use Rattle.slh_hash.proofs.rows_256.tails_of.Given as goal

-- the tails so far
abbrev pub invariant-loop-k : goal.invariant-loop-k
invariant-loop-k g l =
    (length l.tails ≡ g.row.W)
    × ((k : ℕ)
    → k < l.k
    → (let i = min k l.last in
    take (22 + l.width) (slice_index_or l.tails k [])
    ≡ compressed_address (g.A.RowAddress.numbered l.adrs (slice_index l.numbers i)) ++ part l.width l.inputs i))
