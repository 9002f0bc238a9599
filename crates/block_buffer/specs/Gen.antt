-- What a generator of blocks gave in a call, and what was read of it.
use Rattle.std.specs.Prelude.{◌≡◌, ℕ, ◌+◌, ◌-◌, ◌*◌, ◌/◌, ◌≤◌, List, ◌++◌, length, Option}
use Rattle.block_buffer.specs.Sink.{room_after}

-- What a generator means: the lists of bytes for which it stands, all of what it gave, and how many
-- more blocks it may give, where it has a limit.
pub record GenState : Type 1 where
  pub stands : List ℕ → Type 0
  pub room : Option ℕ

-- the generator gave these bytes in so many blocks: each list for which it stood has grown by them,
-- and its room is smaller by the number of blocks
pub record Gives (before now : GenState) (blocks : ℕ) (bytes : List ℕ) : Type 0 where
  pub grows : (m : List ℕ) → before.stands m → now.stands (m ++ bytes)
  pub room : now.room ≡ room_after before.room blocks

-- how many blocks so many bytes need
abbrev pub blocks_for : ℕ → ℕ → ℕ
blocks_for size count = (count + (size - 1)) / size

-- `out` was read: what was unread and the blocks that were given are `out` and what is unread now,
-- and there are as many blocks as the bytes that weren't unread before need
pub record Reads (size : ℕ) (before now : GenState) (old out unread : List ℕ) : Type 0 where
  pub given : List ℕ
  pub joined : old ++ given ≡ out ++ unread
  pub gives : Gives before now (blocks_for size (length out - length old)) given
  pub whole : length given ≡ blocks_for size (length out - length old) * size

-- a position of a read buffer, in a block of a size that the buffer's places can hold
pub record IsReadPosition (size pos : ℕ) : Type 0 where
  pub low : 1 ≤ pos
  pub within : pos ≤ size
  pub high : size ≤ 255
