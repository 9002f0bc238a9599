-- Records of rings: the paths, each with 8 bytes that tell its key. They stand here as they are
-- made, and then, by place, as they are read; a law ties the two.
use Rattle.std.specs.Prelude.{◌≡◌, ◌==◌, ℕ, zero, suc, ◌+◌, ◌*◌, ◌<◌, List, [], ◌∷◌, ◌++◌}
use Rattle.std.specs.Prelude.{length, take, drop, map, codes, slice_index, slice_range}
use Rattle.std.specs.Prelude.{Bool, true, ◌&&◌, nat_le, Option, None, Some}
use Rattle.std.specs.Prelude.{if◌then◌else◌}
use Rattle.std.specs.Int.{from_be_bytes, w16, w32}
use Rattle.std.specs.List.{All}
use Rattle.std.specs.Ordering.{is_lt}
use Rattle.std.specs.Str.{bytes_eq}
use Rattle.slh_core.specs.Bytes.{big_endian}
use Rattle.slh_ring.specs.Rings.{IsRing, path_cmp}

-- numbers that are bytes
abbrev pub AreBytes : List ℕ → Type 0
AreBytes bytes = (i : ℕ) → slice_index bytes i < 256

-- the numbers of a path, 4 bytes each, and before them how many there are
abbrev pub numbers_bytes : List ℕ → List ℕ
numbers_bytes [] = []
numbers_bytes (x ∷ xs) = big_endian x 4 ++ numbers_bytes xs

abbrev pub path_bytes : List ℕ → List ℕ
path_bytes path = length path ∷ numbers_bytes path

-- a path, and 8 bytes
pub record Entry : Type 0 where
  pub path : List ℕ
  pub tag : List ℕ

-- the paths of entries
abbrev pub paths_of : List Entry → List (List ℕ)
paths_of entries = map (λ e. e.path) entries

-- an entry, and all entries
abbrev pub entry_bytes : Entry → List ℕ
entry_bytes e = path_bytes e.path ++ e.tag

abbrev pub entries_bytes : List Entry → List ℕ
entries_bytes [] = []
entries_bytes (e ∷ es) = entry_bytes e ++ entries_bytes es

-- what a record begins with: four letters, the version, and the set's name after its length
abbrev pub record_head : List ℕ → List ℕ
record_head name = codes "SLHR" ++ 1 ∷ length name ∷ name

-- the whole record, with the number of entries in 2 bytes
abbrev pub record_bytes : List ℕ → List Entry → List ℕ
record_bytes name entries =
    record_head name ++ big_endian (length entries) 2 ++ entries_bytes entries

-- bytes are the layout of a ring's paths, with any 8 bytes for each
pub record IsRecordOf (name : List ℕ) (entries : List Entry) (bytes : List ℕ) : Type 0 where
  pub ring : IsRing (paths_of entries)
  pub tags : All (λ e. length e.tag ≡ 8) entries
  pub layout : bytes ≡ record_bytes name entries

-- The parts of an entry that some bytes begin with, by their places.
abbrev pub path_size : List ℕ → ℕ
path_size bytes = 1 + 4 * slice_index bytes 0

abbrev pub entry_size : List ℕ → ℕ
entry_size bytes = path_size bytes + 8

-- whether bytes begin with an entry
abbrev pub has_entry : List ℕ → Bool
has_entry bytes =
    nat_le 1 (length bytes) && nat_le (slice_index bytes 0) 8
    && nat_le (entry_size bytes) (length bytes)

-- so many numbers of 4 bytes each
abbrev pub numbers_in : ℕ → List ℕ → List ℕ
numbers_in zero bytes = []
numbers_in (suc n) bytes = from_be_bytes w32 (take 4 bytes) ∷ numbers_in n (drop 4 bytes)

abbrev pub path_in : List ℕ → List ℕ
path_in bytes = numbers_in (slice_index bytes 0) (slice_range bytes 1 (path_size bytes))

abbrev pub tag_in : List ℕ → List ℕ
tag_in bytes = slice_range bytes (path_size bytes) (entry_size bytes)

abbrev pub entry_in : List ℕ → Entry
entry_in bytes = record { path = path_in bytes; tag = tag_in bytes }

abbrev pub after_entry : List ℕ → List ℕ
after_entry bytes = drop (entry_size bytes) bytes

-- so many entries, whatever the bytes are
unfoldable pub entries_in : ℕ → List ℕ → List Entry
entries_in zero bytes = []
entries_in (suc n) bytes = entry_in bytes ∷ entries_in n (after_entry bytes)

-- whether a path stands above the one before it, if there is one
abbrev pub rises : Option (List ℕ) → List ℕ → Bool
rises None path = true
rises (Some before) path = is_lt (path_cmp before path)

-- whether the bytes are so many entries whose paths rise, and nothing else
unfoldable pub are_entries : ℕ → Option (List ℕ) → List ℕ → Bool
are_entries zero before bytes = length bytes == 0
are_entries (suc n) before bytes =
    has_entry bytes && rises before (path_in bytes)
    && are_entries n (Some (path_in bytes)) (after_entry bytes)

-- the parts of a whole record: its head, how many entries it has, and their bytes
abbrev pub head_size : List ℕ → ℕ
head_size name = 6 + length name

abbrev pub count_in : List ℕ → List ℕ → ℕ
count_in name bytes =
    from_be_bytes w16 (slice_range bytes (head_size name) (head_size name + 2))

abbrev pub body_in : List ℕ → List ℕ → List ℕ
body_in name bytes = drop (head_size name + 2) bytes

-- whether bytes have the form of a record
abbrev pub has_form : List ℕ → List ℕ → Bool
has_form name bytes =
    nat_le (head_size name + 2) (length bytes)
    && bytes_eq (take (head_size name) bytes) (record_head name)
    && nat_le (count_in name bytes) 64
    && are_entries (count_in name bytes) None (body_in name bytes)

-- the entries of a record
abbrev pub recorded : List ℕ → List ℕ → List Entry
recorded name bytes = entries_in (count_in name bytes) (body_in name bytes)

-- the set's name that stands in bytes that begin as a record does, whatever follows it
abbrev pub set_in : List ℕ → Option (List ℕ)
set_in bytes =
    let end = 6 + slice_index bytes 5 in
    if nat_le end (length bytes) && bytes_eq (take 5 bytes) (codes "SLHR" ++ 1 ∷ [])
    then Some (slice_range bytes 6 end) else None
