-- Buffers as arrays of bytes.
use Rattle.std.specs.Prelude.{◌≡◌, ℕ, ◌+◌, ◌-◌, ◌<◌, ◌≤◌, List, ◌∷◌, ◌++◌, length, drop, replicate}
use Rattle.std.specs.Prelude.{slice_index, slice_range}

-- in so many bytes: the number of bytes held, these bytes, and zeros
abbrev pub serialized : ℕ → List ℕ → List ℕ
serialized size held = length held ∷ held ++ replicate (size - (length held + 1)) 0

-- the first byte is a number below the limit, and what follows so many bytes is zeros
pub record IsSerialized (limit : ℕ) (bytes : List ℕ) : Type 0 where
  pub position : slice_index bytes 0 < limit
  pub unused : drop (slice_index bytes 0 + 1) bytes
      ≡ replicate (length bytes - (slice_index bytes 0 + 1)) 0

-- in a block of so many bytes: the position, zeros up to it, and the unread bytes from there on
abbrev pub read_serialized : ℕ → List ℕ → List ℕ
read_serialized size unread =
    let pos = size - length unread in pos ∷ replicate (pos - 1) 0 ++ unread

-- the first byte is a position from 1 to the block size, and what lies between is zeros
pub record IsReadSerialized (size : ℕ) (bytes : List ℕ) : Type 0 where
  pub low : 1 ≤ slice_index bytes 0
  pub high : slice_index bytes 0 ≤ size
  pub consumed : slice_range bytes 1 (slice_index bytes 0) ≡ replicate (slice_index bytes 0 - 1) 0
