-- What the fields of a line stand for, and what is wrong where they stand for nothing. Z is the
-- scheme of the line's set, of values of n bytes.
use Rattle.std.specs.Prelude.{◌==◌, ℕ, ◌*◌, List, [], ◌∷◌, length, drop, Option, None, Some}
use Rattle.std.specs.Prelude.{Result, Ok, Err, codes, if◌then◌else◌}
use Rattle.std.specs.Str.{bytes_eq}
use Rattle.line_serve.specs.Fields.{field_at, hex_value}
use Rattle.slh_core.specs.Parameters.{Scheme}
use Rattle.slh_line.specs.declared.line_error.LineError.{LineError}
use Rattle.slh_line.specs.declared.line_error.LineError.TheVariants.{Fields, Hex, Length}
use Rattle.slh_line.specs.declared.line_error.LineError.TheVariants.{Randomizer}

-- what is read on, where nothing was wrong before
abbrev pub and_then : {A B : Type 0} → Result A LineError → (A → Result B LineError)
    → Result B LineError
and_then (Err found) next = Err found
and_then (Ok value) next = next value

-- a value that has to stand there: a hexadecimal one, or one of the right kind or range
abbrev pub some_or_hex : {A : Type 0} → Option A → Result A LineError
some_or_hex None = Err Hex
some_or_hex (Some value) = Ok value

abbrev pub some_or_fields : {A : Type 0} → Option A → Result A LineError
some_or_fields None = Err Fields
some_or_fields (Some value) = Ok value

-- the bytes of a field, which is "-" or hexadecimal
abbrev pub bytes_of : List ℕ → Result (List ℕ) LineError
bytes_of field = some_or_hex (hex_value field)

abbrev pub bytes_at : List (List ℕ) → ℕ → Result (List ℕ) LineError
bytes_at fields i = bytes_of (field_at fields i)

-- the bytes of each field
abbrev pub all_bytes : List (List ℕ) → Result (List (List ℕ)) LineError
all_bytes [] = Ok []
all_bytes (field ∷ later) =
    and_then (bytes_of field) (λ bytes.
    and_then (all_bytes later) (λ rest. Ok (bytes ∷ rest)))

-- the bytes of each field from one on
abbrev pub all_bytes_at : List (List ℕ) → ℕ → Result (List (List ℕ)) LineError
all_bytes_at fields from = all_bytes (drop from fields)

-- the randomizer of a field, which is "none" or a field of bytes
abbrev pub some_bytes : Result (List ℕ) LineError → Result (Option (List ℕ)) LineError
some_bytes (Err found) = Err found
some_bytes (Ok bytes) = Ok (Some bytes)

abbrev pub randomizer_at : List (List ℕ) → ℕ → Result (Option (List ℕ)) LineError
randomizer_at fields i =
    if bytes_eq (field_at fields i) (codes "none") then Ok None else some_bytes (bytes_at fields i)

-- a signing key has 4n bytes, and a verifying key 2n
abbrev pub signing_key : Scheme → List ℕ → Result (List ℕ) LineError
signing_key Z key = if length key == 4 * Z.n then Ok key else Err Length

abbrev pub verifying_key : Scheme → List ℕ → Result (List ℕ) LineError
verifying_key Z key = if length key == 2 * Z.n then Ok key else Err Length

-- a randomizer that is given has n bytes
abbrev pub checked_randomizer : Scheme → Option (List ℕ) → Result (Option (List ℕ)) LineError
checked_randomizer Z None = Ok None
checked_randomizer Z (Some bytes) =
    if length bytes == Z.n then Ok (Some bytes) else Err Randomizer
