-- A key as a line `SET KEY`.
use Rattle.std.specs.Prelude.{◌==◌, ℕ, List, [], ◌∷◌, Bool, false, not, ◌||◌, filter, length}
use Rattle.std.specs.Prelude.{Option, None, Some, Result, Ok, Err, is_ok, if◌then◌else◌}
use Rattle.std.specs.List.{slice_split}
use Rattle.line_serve.specs.Fields.{field_at, hex_value}
use Rattle.slh_sets.specs.Sets.{set_named}
use Rattle.slh_sets.specs.declared.set.Set.{Set}
use Rattle.slh_bytes.specs.Heads.{key_len, other_kind}
use Rattle.slh_bytes.specs.declared.error.KeyFileError.{KeyFileError}
use Rattle.slh_bytes.specs.declared.error.KeyFileError.TheVariants.{Empty, Hex, Length, NoKey}
use Rattle.slh_bytes.specs.declared.error.KeyFileError.TheVariants.{OtherKind}
use Rattle.slh_bytes.specs.declared.key.Key.{Key}
use Rattle.slh_bytes.specs.declared.key.Kind.{Kind}

-- a space, a tab and the ends of lines
abbrev pub is_blank : ℕ → Bool
is_blank b = b == 32 || b == 9 || b == 13 || b == 10

abbrev pub squeezed : List ℕ → List ℕ
squeezed = filter (λ b. not (is_blank b))

-- what stands between blanks
abbrev pub words_of : List ℕ → List (List ℕ)
words_of text = filter (λ part. not (length part == 0)) (slice_split is_blank text)

-- bytes that have to be a key of a set
abbrev pub sized_key : Kind → Set → List ℕ → Result Key KeyFileError
sized_key kind set bytes =
    if length bytes == key_len kind set then Ok (record { set = set; bytes = bytes })
    else if length bytes == key_len (other_kind kind) set then Err OtherKind
    else Err Length

abbrev pub hex_key : Kind → Set → Option (List ℕ) → Result Key KeyFileError
hex_key kind set None = Err Hex
hex_key kind set (Some bytes) = sized_key kind set bytes

abbrev pub set_key : Kind → List ℕ → Option Set → Result Key KeyFileError
set_key kind digits None = Err NoKey
set_key kind digits (Some set) = hex_key kind set (hex_value digits)

-- the key of a set's name and hexadecimal digits
abbrev pub line_key : Kind → List ℕ → Result Key KeyFileError
line_key kind text =
    let words = words_of text in
    if length words == 0 then Err Empty
    else if length words == 2 then set_key kind (field_at words 1) (set_named (field_at words 0))
    else Err NoKey

-- two words are a set's name and a key of it
abbrev pub is_line : Kind → List ℕ → List ℕ → Bool
is_line kind name digits = is_ok (set_key kind digits (set_named name))

-- a word and the one behind it are so, of those that have one
abbrev pub has_line : Kind → List (List ℕ) → Bool
has_line kind [] = false
has_line kind (name ∷ rest) = is_line kind name (field_at rest 0) || has_line kind rest
