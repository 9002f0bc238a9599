-- Paths as text: decimal numbers between slashes, or "." for the path of none.
use Rattle.std.specs.Prelude.{ℕ, ◌==◌, ◌&&◌, List, [], ◌∷◌, length, slice_index, codes, decimal}
use Rattle.std.specs.Prelude.{Bool, nat_le, Option, None, Some, if◌then◌else◌}
use Rattle.std.specs.List.{join_by, slice_split}
use Rattle.line_serve.specs.Decimals.{number_value}
use Rattle.line_serve.specs.Fields.{for_some}

abbrev pub slash : ℕ
slash = 47

-- whether the text is "." alone
abbrev pub is_dot : List ℕ → Bool
is_dot text = length text == 1 && slice_index text 0 == 46

-- the parts between slashes, of which some may be empty
abbrev pub path_parts : List ℕ → List (List ℕ)
path_parts text = slice_split (λ x. x == slash) text

-- the number of each part: 1 to 10 decimal digits with a value below 2^32
abbrev pub all_numbers : List (List ℕ) → Option (List ℕ)
all_numbers [] = Some []
all_numbers (text ∷ later) =
    for_some (number_value text) (λ number.
    for_some (all_numbers later) (λ rest. Some (number ∷ rest)))

-- the path that a text stands for, of at most 8 numbers
abbrev pub path_value : List ℕ → Option (List ℕ)
path_value text =
    if is_dot text then Some []
    else if nat_le (length (path_parts text)) 8 then all_numbers (path_parts text)
    else None

-- the text of a path, its numbers without leading zeros
abbrev pub path_text : List ℕ → List ℕ
path_text [] = codes "."
path_text (number ∷ later) = join_by decimal (codes "/") (number ∷ later)
