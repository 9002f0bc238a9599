-- Names of others' files and links, as they are printed on a terminal.
use Rattle.std.specs.Prelude.{ℕ, Bool, false, not, ◌&&◌, ◌||◌, ◌==◌, List, [], ◌∷◌, map}
use Rattle.std.specs.Prelude.{if◌then◌else◌}
use Rattle.std.specs.Char.{is_ascii_graphic, is_control}
use Rattle.std.specs.Str.{chars, is_utf8}

-- whether one of some characters is a control character
abbrev pub has_control : List ℕ → Bool
has_control [] = false
has_control (c ∷ rest) = is_control c || has_control rest

-- whether a name is printed as it stands
abbrev pub is_plain : List ℕ → Bool
is_plain name = is_utf8 name && not (has_control (chars name))

abbrev pub shown_byte : ℕ → ℕ
shown_byte b = if is_ascii_graphic b || b == 32 then b else 63

abbrev pub shown_name : List ℕ → List ℕ
shown_name name = if is_plain name then name else map shown_byte name
