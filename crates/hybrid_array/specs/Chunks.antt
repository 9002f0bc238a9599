-- Lists that are cut into chunks of one length.
use Rattle.std.specs.Prelude.{◌≡◌, ℕ, ◌*◌, ◌/◌, ◌<◌, List, take, drop}

-- how many of `count` items stand in whole chunks
abbrev pub whole_count : ℕ → ℕ → ℕ
whole_count size count = count / size * size

-- chunk i, counted from 0
abbrev pub chunk_at : {X : Type 0} → ℕ → List X → ℕ → List X
chunk_at size items i = take size (drop (i * size) items)

-- so many items are chunks, with none left over
pub record IsWholeChunks (size count : ℕ) : Type 0 where
  pub some : 0 < size
  pub whole : whole_count size count ≡ count
