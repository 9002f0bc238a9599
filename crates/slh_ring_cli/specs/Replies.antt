-- The replies of the program. Z is the scheme of the line's set, and NAME the set's name.
use Rattle.std.specs.Prelude.{ℕ, ◌==◌, ◌&&◌, ◌*◌, List, [], ◌∷◌, ◌++◌, length, drop, codes}
use Rattle.std.specs.Prelude.{nat_le, Option, None, Some, Result, Ok, Err, if◌then◌else◌}
use Rattle.std.specs.List.{flat_map}
use Rattle.std.specs.Str.{bytes_eq}
use Rattle.hex.specs.Hex.{encode_lower}
use Rattle.line_serve.specs.Fields.{field_at}
use Rattle.line_serve.specs.Texts.{hex_line, number_line}
use Rattle.slh_core.specs.Parameters.{Scheme}
use Rattle.slh_ring.specs.Keys.{ring_bytes, ring_key}
use Rattle.slh_ring.specs.PathTexts.{path_text}
use Rattle.slh_ring.specs.Restores.{restore_answer}
use Rattle.slh_ring.specs.Rings.{has_path, with_path}
use Rattle.slh_ring.specs.declared.error.RestoreError.{RestoreError}
use Rattle.slh_ring.specs.declared.error.RestoreError.TheVariants.{Form, Mismatch, Memory}
use Rattle.slh_line.specs.Readings.{and_then, bytes_at}
use Rattle.slh_line.specs.Replies.{Answers}
use Rattle.slh_line.specs.declared.line_error.LineError.{LineError}
use Rattle.slh_line.specs.declared.line_error.LineError.TheVariants.{Command, Fields}
use Rattle.slh_ring_cli.specs.PathFields.{all_paths, path_of}

abbrev pub usage : List ℕ
usage = codes "usage: slh_ring_cli\n"

-- a signing key, and its verifying key, which is its last half
abbrev pub key_text : Scheme → List ℕ → List ℕ
key_text Z key =
    codes "key " ++ encode_lower key ++ codes " " ++ encode_lower (drop (2 * Z.n) key)
    ++ codes "\n"

-- a line has a master and a path
abbrev pub derive_line_answer : Scheme → List ℕ → List (List ℕ) → Result (List ℕ) LineError
derive_line_answer Z name fields =
    if length fields == 4 then
    and_then (path_of (field_at fields 3)) (λ path.
    and_then (bytes_at fields 2) (λ master.
    Ok (key_text Z (ring_key Z name master path))))
    else Err Fields

-- a ring to which paths are added in turn, unless one is there already
abbrev pub all_added : List (List ℕ) → List (List ℕ) → Option (List (List ℕ))
all_added ring [] = Some ring
all_added ring (path ∷ later) =
    if has_path ring path then None else all_added (with_path ring path) later

-- what is answered to a master, where there is such a ring and where there is none
abbrev pub record_text : Scheme → List ℕ → List ℕ → Option (List (List ℕ)) → List ℕ
record_text Z name master (Some ring) =
    hex_line (codes "record ") (ring_bytes Z name master ring)
record_text Z name master None = codes "error present\n"

-- a line has a master and 0 to 64 paths
abbrev pub record_line_answer : Scheme → List ℕ → List (List ℕ) → Result (List ℕ) LineError
record_line_answer Z name fields =
    if nat_le 3 (length fields) && nat_le (length fields) 67 then
    and_then (all_paths (drop 3 fields)) (λ paths.
    and_then (bytes_at fields 2) (λ master.
    Ok (record_text Z name master (all_added [] paths))))
    else Err Fields

-- the paths of a ring, in order
abbrev pub ring_text : List (List ℕ) → List ℕ
ring_text paths = codes "ring" ++ flat_map (λ path. codes " " ++ path_text path) paths ++ codes "\n"

-- the ring of a record, or why it has none. Restoring is never answered with want of memory.
abbrev pub restore_text : Result (List (List ℕ)) RestoreError → List ℕ
restore_text (Ok paths) = ring_text paths
restore_text (Err Form) = codes "error form\n"
restore_text (Err (Mismatch i)) = number_line (codes "mismatch ") i
restore_text (Err Memory) = []

-- a line has a master and a record
abbrev pub restore_line_answer : Scheme → List ℕ → List (List ℕ) → Result (List ℕ) LineError
restore_line_answer Z name fields =
    if length fields == 4 then
    and_then (bytes_at fields 2) (λ master.
    and_then (bytes_at fields 3) (λ bytes.
    Ok (restore_text (restore_answer Z name master bytes))))
    else Err Fields

abbrev pub ring_answers : Answers
ring_answers Z name fields =
    if bytes_eq (field_at fields 1) (codes "derive") then derive_line_answer Z name fields
    else if bytes_eq (field_at fields 1) (codes "record") then record_line_answer Z name fields
    else if bytes_eq (field_at fields 1) (codes "restore") then restore_line_answer Z name fields
    else Err Command
