-- The bytes of a bundle of entries (C2SP, tlog-tiles).
use Rattle.std.specs.Prelude.{◌≡◌, ◌≢◌, ℕ, zero, suc, ◌+◌, ◌*◌, ◌/◌, ◌%◌, ◌<◌, List, [], ◌∷◌}
use Rattle.std.specs.Prelude.{Option, None, Some, nat_lt, length, take, drop, if◌then◌else◌}
use Rattle.std.specs.List.{flat_map}
use Rattle.log_tiles.specs.declared.entries.BundleError.{BundleError}
use Rattle.log_tiles.specs.declared.entries.BundleError.TheVariants.{Cut, Fewer, More}

-- an entry of fewer than 65,536 bytes: its length in two bytes, and itself
abbrev pub entry_bytes : List ℕ → List ℕ
entry_bytes entry = (length entry / 256) ∷ (length entry % 256) ∷ entry

abbrev pub bundle_bytes : List (List ℕ) → List ℕ
bundle_bytes entries = flat_map entry_bytes entries

-- the first entry of a bundle's bytes, and the bytes behind it
pub record Split : Type 0 where
  pub entry : List ℕ
  pub rest : List ℕ

abbrev pub split_at : ℕ → List ℕ → Option Split
split_at len bytes =
    if nat_lt (length bytes) len
    then None
    else Some (record { entry = take len bytes; rest = drop len bytes })

abbrev pub split_entry : List ℕ → Option Split
split_entry [] = None
split_entry (high ∷ []) = None
split_entry (high ∷ low ∷ bytes) = split_at (high * 256 + low) bytes

-- an entry before others that are read
abbrev pub before : List ℕ → Option (List (List ℕ)) → Option (List (List ℕ))
before entry None = None
before entry (Some entries) = Some (entry ∷ entries)

-- the first entry, and then what is read behind it
abbrev pub read_on : (List ℕ → Option (List (List ℕ))) → Option Split → Option (List (List ℕ))
read_on read None = None
read_on read (Some split) = before split.entry (read split.rest)

-- the entries that bytes have, if there are n of them and no byte is behind them
unfoldable pub read_entries : ℕ → List ℕ → Option (List (List ℕ))
read_entries zero [] = Some []
read_entries zero (byte ∷ bytes) = None
read_entries (suc n) bytes = read_on (read_entries n) (split_entry bytes)

-- what a reader has before it: so many entries, in these bytes
pub record Unread : Type 0 where
  pub left : ℕ
  pub rest : List ℕ

-- the reader gives an entry and goes on behind it, or is at the end
pub record IsBehind (old : Unread) (entry : List ℕ) (new : Unread) : Type 0 where
  pub left : new.left + 1 ≡ old.left
  pub rest : split_entry old.rest ≡ Some (record { entry = entry; rest = new.rest })

pub record IsAtEnd (old new : Unread) : Type 0 where
  pub left : old.left ≡ 0
  pub rest : old.rest ≡ []
  pub same : new ≡ old

-- or it refuses, and why
abbrev pub IsRefusedAs : Unread → BundleError → Type 0
IsRefusedAs unread More = (unread.left ≡ 0) × (unread.rest ≢ [])
IsRefusedAs unread Fewer = (0 < unread.left) × (unread.rest ≡ [])
IsRefusedAs unread Cut = (0 < unread.left) × (unread.rest ≢ []) × (split_entry unread.rest ≡ None)
