-- Paths as fields of a line.
use Rattle.std.specs.Prelude.{ℕ, List, [], ◌∷◌, Result, Ok}
use Rattle.slh_line.specs.Readings.{and_then, some_or_fields}
use Rattle.slh_line.specs.declared.line_error.LineError.{LineError}
use Rattle.slh_ring.specs.PathTexts.{path_value}

-- the path of a field, which has to be one
abbrev pub path_of : List ℕ → Result (List ℕ) LineError
path_of field = some_or_fields (path_value field)

-- the paths of all fields
abbrev pub all_paths : List (List ℕ) → Result (List (List ℕ)) LineError
all_paths [] = Ok []
all_paths (field ∷ later) =
    and_then (path_of field) (λ path.
    and_then (all_paths later) (λ rest. Ok (path ∷ rest)))
