-- The schedules of eight blocks, place by place.
use Rattle.std.specs.Prelude.{◌≡◌, ℕ, ◌*◌, ◌<◌, List, [], drop, slice_index}
use Rattle.std.specs.Prelude.{slice_index_or, take}
use Rattle.sha256_lanes.specs.Eight.{word_in}
use Rattle.sha256_lanes.specs.Sha256.{constants, schedule, sum32}
use Rattle.sha256_lanes.specs.declared.bulk.Schedules.{Schedules}

-- block j of some blocks
abbrev pub block_in : List ℕ → ℕ → List ℕ
block_in p j = take 64 (drop (64 * j) p)

-- the eight blocks from block 8 * i on
abbrev pub batch_at : List ℕ → ℕ → List ℕ
batch_at p i = take 512 (drop (512 * i) p)

-- the first n places have word t of the schedule of each of the eight blocks of p, without and with
-- the constant of its round
unfoldable pub IsFilled : Schedules → List ℕ → ℕ → Type 0
IsFilled s p n =
    ((t j : ℕ) → t < n → j < 8
    → word_in (slice_index_or s.words t []) j ≡ slice_index (schedule (block_in p j) 64) t)
    × ((t j : ℕ) → t < n → j < 8
    → word_in (slice_index_or s.keyed t []) j
    ≡ sum32 (slice_index (schedule (block_in p j) 64) t) (slice_index constants t))
