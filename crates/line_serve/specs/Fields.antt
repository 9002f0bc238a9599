-- The fields of a line, and what a hexadecimal one stands for.
use Rattle.std.specs.Prelude.{◌==◌, if◌then◌else◌, not, ℕ, List, [], length, map, filter, Option}
use Rattle.std.specs.Prelude.{None, Some, slice_get, slice_index, unwrap_or, Bool, ◌&&◌}
use Rattle.std.specs.Borrow.{Bor}
use Rattle.std.specs.List.{slice_split}
use Rattle.std.specs.Result.{result_ok}
use Rattle.std.specs.Str.Lines.{strip_carriage_return}
use Rattle.hex.specs.Hex.{decode_of}

-- the bytes of slices that are lent
abbrev pub contents : List (Bor (List ℕ)) → List (List ℕ)
contents slices = map (λ slice. slice.now) slices

abbrev pub space : ℕ
space = 32

-- the parts between spaces that aren't empty, without one carriage return at the end of the line
abbrev pub fields : List ℕ → List (List ℕ)
fields line =
    filter (λ part. not (length part == 0))
    (slice_split (λ x. x == space) (strip_carriage_return line))

-- whether the field is "-" alone
abbrev pub is_dash : List ℕ → Bool
is_dash field = length field == 1 && slice_index field 0 == 45

-- what a field of bytes stands for: "-" for none, else an even number of hexadecimal digits of
-- either case
abbrev pub hex_value : List ℕ → Option (List ℕ)
hex_value field = if is_dash field then Some [] else result_ok (decode_of field)

-- the field at an index, with no bytes where there are not so many
abbrev pub field_at : List (List ℕ) → ℕ → List ℕ
field_at fields i = unwrap_or (slice_get fields i) []

-- what is read on, where what was read before stands there
abbrev pub for_some : {A B : Type 0} → Option A → (A → Option B) → Option B
for_some None next = None
for_some (Some value) next = next value
