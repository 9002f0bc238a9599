-- The schedules of four blocks, place by place.
use Rattle.std.specs.Prelude.{◌≡◌, ℕ, ◌*◌, ◌%◌, ◌^◌, ◌<◌, List, [], drop}
use Rattle.std.specs.Prelude.{slice_index, slice_index_or, take}
use Rattle.sha2.specs.Sha512.{add64, round_constants, schedule}
use Rattle.sha512_lanes.specs.declared.bulk.Schedules.{Schedules}

-- the word in lane j
abbrev pub word_in : List ℕ → ℕ → ℕ
word_in lanes j = slice_index lanes j % 2 ^ 64

-- block j of some blocks
abbrev pub block_in : List ℕ → ℕ → List ℕ
block_in p j = take 128 (drop (j * 128) p)

-- the four blocks from block 4 * i on
abbrev pub batch_at : List ℕ → ℕ → List ℕ
batch_at p i = take 512 (drop (512 * i) p)

-- the first n places have word t of the schedule of each of the four blocks of p, without and with
-- the constant of its round
unfoldable pub IsFilled : Schedules → List ℕ → ℕ → Type 0
IsFilled s p n =
    ((t j : ℕ) → t < n → j < 4
    → word_in (slice_index_or s.words t []) j ≡ slice_index (schedule (block_in p j) 64) t)
    × ((t j : ℕ) → t < n → j < 4
    → word_in (slice_index_or s.keyed t []) j
    ≡ add64 (slice_index (schedule (block_in p j) 64) t) (slice_index round_constants t))
