-- The replies of the program. Z is the scheme of the line's set.
use Rattle.std.specs.Prelude.{ℕ, ◌==◌, ◌&&◌, ◌%◌, List, [], ◌∷◌, ◌++◌, length, codes, nat_le}
use Rattle.std.specs.Prelude.{Bool, Option, None, Some, Result, Ok, Err, if◌then◌else◌}
use Rattle.std.specs.FinMap.{empty, insert}
use Rattle.std.specs.Str.{bytes_eq}
use Rattle.line_serve.specs.Fields.{field_at}
use Rattle.line_serve.specs.Texts.{hex_line, number_line}
use Rattle.slh_core.specs.Parameters.{Scheme}
use Rattle.slh_core.specs.Refusals.{first_refusal, unless_refused}
use Rattle.slh_manifest.specs.Building.{bytes_refusal, entry_of, manifest_of, name_refusal}
use Rattle.slh_manifest.specs.Checking.{check_error}
use Rattle.slh_manifest.specs.Files.{Files}
use Rattle.slh_manifest.specs.declared.entry.Entry.{Entry}
use Rattle.slh_manifest.specs.declared.error.BuildError.{BuildError}
use Rattle.slh_manifest.specs.declared.error.BuildError.TheVariants.{Name, TooLarge}
use Rattle.slh_manifest.specs.declared.error.CheckError.{CheckError}
use Rattle.slh_manifest.specs.declared.error.CheckError.TheVariants.{Form, Invalid, Missing}
use Rattle.slh_manifest.specs.declared.error.CheckError.TheVariants.{Differs, Fault}
use Rattle.slh_line.specs.Readings.{all_bytes_at, and_then, bytes_at, checked_randomizer}
use Rattle.slh_line.specs.Readings.{randomizer_at, signing_key, verifying_key}
use Rattle.slh_line.specs.Replies.{Answers}
use Rattle.slh_line.specs.declared.line_error.LineError.{LineError}
use Rattle.slh_line.specs.declared.line_error.LineError.TheVariants.{Command, Fields}

abbrev pub usage : List ℕ
usage = codes "usage: slh_manifest_cli\n"

-- whether the fields are at least so many and at most those of 4096 pairs, and none is left over
abbrev pub has_pairs : ℕ → List (List ℕ) → Bool
has_pairs least fields =
    nat_le least (length fields) && nat_le (length fields) 8196 && length fields % 2 == 0

-- why a name with these bytes isn't added to entries
abbrev pub pair_refusal : List Entry → List ℕ → List ℕ → Option BuildError
pair_refusal entries name bytes =
    first_refusal (name_refusal entries name ∷ bytes_refusal (Some bytes) ∷ [])

-- the entries, and after them those of pairs of a name and its bytes, in their order; or why the
-- first pair that isn't added isn't
unfoldable pub entries_with : List Entry → List (List ℕ) → Result (List Entry) BuildError
entries_with entries [] = Ok entries
entries_with entries (name ∷ []) = Ok entries
entries_with entries (name ∷ bytes ∷ later) =
    unless_refused (pair_refusal entries name bytes)
    (entries_with (entries ++ entry_of name bytes ∷ []) later)

-- what is answered to pairs that a manifest is made of, or not. No line has more than 2^32 bytes,
-- or is refused for another cause, which would have no text.
abbrev pub seal_text : Scheme → List ℕ → Option (List ℕ) → Result (List Entry) BuildError → List ℕ
seal_text Z key opt_rand (Ok entries) =
    hex_line (codes "manifest ") (manifest_of Z key opt_rand entries)
seal_text Z key opt_rand (Err Name) = codes "error name\n"
seal_text Z key opt_rand (Err TooLarge) = codes "error large\n"
seal_text Z key opt_rand (Err refusal) = []

-- what is answered to a key, a randomizer and pairs
abbrev pub seal_request : Scheme → List ℕ → Option (List ℕ) → List (List ℕ)
    → Result (List ℕ) LineError
seal_request Z key opt_rand pairs =
    and_then (signing_key Z key) (λ key.
    and_then (checked_randomizer Z opt_rand) (λ opt_rand.
    Ok (seal_text Z key opt_rand (entries_with [] pairs))))

-- a line has a key, a randomizer, and 1 to 4096 pairs
abbrev pub seal_answer : Scheme → List (List ℕ) → Result (List ℕ) LineError
seal_answer Z fields =
    if has_pairs 6 fields then
    and_then (bytes_at fields 2) (λ key.
    and_then (randomizer_at fields 3) (λ opt_rand.
    and_then (all_bytes_at fields 4) (λ pairs.
    seal_request Z key opt_rand pairs)))
    else Err Fields

-- the files of a store to which pairs are put, in their order: of two with one name the later
-- counts
unfoldable pub files_with : Files → List (List ℕ) → Files
files_with files [] = files
files_with files (name ∷ []) = files
files_with files (name ∷ bytes ∷ later) = files_with (insert files name bytes) later

-- what is answered to a check. Over a store that doesn't fault none ends by a fault.
abbrev pub check_text : Option CheckError → List ℕ
check_text None = codes "accepted\n"
check_text (Some Form) = codes "error form\n"
check_text (Some Invalid) = codes "error invalid\n"
check_text (Some (Missing i)) = number_line (codes "missing ") i
check_text (Some (Differs i)) = number_line (codes "differs ") i
check_text (Some Fault) = []

-- what is answered to a verifying key, a manifest and pairs
abbrev pub check_request : Scheme → List ℕ → List ℕ → List (List ℕ) → Result (List ℕ) LineError
check_request Z key manifest pairs =
    and_then (verifying_key Z key) (λ key.
    Ok (check_text (check_error Z key manifest (files_with empty pairs))))

-- a line has a verifying key, a manifest, and 0 to 4096 pairs
abbrev pub check_answer : Scheme → List (List ℕ) → Result (List ℕ) LineError
check_answer Z fields =
    if has_pairs 4 fields then
    and_then (bytes_at fields 2) (λ key.
    and_then (bytes_at fields 3) (λ manifest.
    and_then (all_bytes_at fields 4) (λ pairs.
    check_request Z key manifest pairs)))
    else Err Fields

abbrev pub manifest_answers : Answers
manifest_answers Z name fields =
    if bytes_eq (field_at fields 1) (codes "seal") then seal_answer Z fields
    else if bytes_eq (field_at fields 1) (codes "check") then check_answer Z fields
    else Err Command
