-- What a sink of blocks took in a call.
use Rattle.std.specs.Prelude.{◌≡◌, ℕ, ◌+◌, ◌-◌, ◌*◌, ◌^◌, ◌≤◌, List, ◌++◌, length, min, take}
use Rattle.std.specs.Prelude.{Option, None, Some, Result, OnOk, OnErr}

-- What a sink means: the lists of bytes for which it stands, all of what it took, and how many more
-- bytes it may take, where it has a limit.
pub record SinkState : Type 1 where
  pub stands : List ℕ → Type 0
  pub room : Option ℕ

-- n more bytes may be taken
abbrev pub HasRoom : Option ℕ → ℕ → Type 0
HasRoom None n = Unit {0}
HasRoom (Some room) n = n ≤ room

-- the room once n more bytes were taken
abbrev pub room_after : Option ℕ → ℕ → Option ℕ
room_after None n = None
room_after (Some room) n = Some (room - n)

-- the sink took these bytes: each list for which it stood has grown by them, and its room is
-- smaller by their number
pub record Takes (before now : SinkState) (bytes : List ℕ) : Type 0 where
  pub grows : (m : List ℕ) → before.stands m → now.stands (m ++ bytes)
  pub room : now.room ≡ room_after before.room (length bytes)

-- the sink took the first whole blocks of these bytes, some of them, none or all
pub record TakesPart (size : ℕ) (before now : SinkState) (bytes : List ℕ) : Type 0 where
  pub blocks : ℕ
  pub within : blocks * size ≤ length bytes
  pub takes : Takes before now (take (blocks * size) bytes)

-- the count rose, or stands at 2^64 - 1, where it stays
abbrev pub Rose : ℕ → ℕ → Type 0
Rose before now = min (before + 1) (2 ^ 64 - 1) ≤ now

-- The answer of a call that hands out these bytes: with Ok the sink took all of them, and refused
-- it took the first whole blocks of them, some, none or all.
pub record HandsOut {T E : Type 0} (size : ℕ) (answer : Result T E) (before now : SinkState)
    (bytes : List ℕ) : Type 0 where
  pub ok : OnOk answer (Takes before now bytes)
  pub refused : OnErr answer (TakesPart size before now bytes)

-- the answer is a refusal only where the count rose, and the count doesn't fall
pub record RefusedBy {T E : Type 0} (answer : Result T E) (before now : ℕ) : Type 0 where
  pub cause : OnErr answer (Rose before now)
  pub never_falls : before ≤ now
