-- The replies to lines on proofs, which name no set.
use Rattle.std.specs.Prelude.{ℕ, ◌+◌, ◌==◌, ◌&&◌, List, [], ◌∷◌, length, codes, nat_le}
use Rattle.std.specs.Prelude.{Bool, Option, None, Some, Result, Ok, Err, if◌then◌else◌}
use Rattle.std.specs.Str.{bytes_eq}
use Rattle.line_serve.specs.Fields.{field_at}
use Rattle.slh_line.specs.Readings.{all_bytes_at, and_then, bytes_at, some_or_fields}
use Rattle.slh_line.specs.declared.line_error.LineError.{LineError}
use Rattle.slh_line.specs.declared.line_error.LineError.TheVariants.{Fields, Length}
use Rattle.slh_log.specs.Calls.{growth_refusal, presence_refusal}
use Rattle.slh_log.specs.Reading.{size_value}
use Rattle.slh_log.specs.declared.error.GrowthError.{GrowthError}
use Rattle.slh_log.specs.declared.error.GrowthError.TheVariants as growth
use Rattle.slh_log.specs.declared.error.PresenceError.{PresenceError}
use Rattle.slh_log.specs.declared.error.PresenceError.TheVariants as presence

-- a size or an index is a number below 2^64 without leading zeros
abbrev pub size_at : List (List ℕ) → ℕ → Result ℕ LineError
size_at fields i = some_or_fields (size_value (field_at fields i))

-- a digest has 32 bytes
abbrev pub digest_of : List ℕ → Result (List ℕ) LineError
digest_of bytes = if length bytes == 32 then Ok bytes else Err Length

-- the digests that a proof has
abbrev pub digests_of : List (List ℕ) → Result (List (List ℕ)) LineError
digests_of [] = Ok []
digests_of (bytes ∷ later) =
    and_then (digest_of bytes) (λ digest.
    and_then (digests_of later) (λ rest. Ok (digest ∷ rest)))

-- a line has so many fields, and after them 0 to 65 of a proof: none that passes is longer
abbrev pub has_proof : ℕ → List (List ℕ) → Bool
has_proof before fields =
    nat_le before (length fields) && nat_le (length fields) (before + 65)

-- what is answered to an entry
abbrev pub presence_text : Option PresenceError → List ℕ
presence_text None = codes "present\n"
presence_text (Some presence.Index) = codes "error index\n"
presence_text (Some presence.Entry) = codes "error entry\n"
presence_text (Some presence.Length) = codes "error proof\n"
presence_text (Some presence.Invalid) = codes "error invalid\n"

-- what is answered to the bytes of a root, an entry and a path
abbrev pub presence_request : ℕ → List ℕ → ℕ → List ℕ → List (List ℕ) → Result (List ℕ) LineError
presence_request size root index entry path =
    and_then (digest_of root) (λ root.
    and_then (digests_of path) (λ path.
    Ok (presence_text (presence_refusal size root index entry path))))

-- a line has a size, a root, an index, an entry, and a path
abbrev pub presence_answer : List (List ℕ) → Result (List ℕ) LineError
presence_answer fields =
    if has_proof 5 fields then
    and_then (size_at fields 1) (λ size.
    and_then (size_at fields 3) (λ index.
    and_then (bytes_at fields 2) (λ root.
    and_then (bytes_at fields 4) (λ entry.
    and_then (all_bytes_at fields 5) (λ path.
    presence_request size root index entry path)))))
    else Err Fields

-- what is answered to two heads
abbrev pub growth_text : Option GrowthError → List ℕ
growth_text None = codes "grown\n"
growth_text (Some growth.Empty) = codes "error empty\n"
growth_text (Some growth.Smaller) = codes "error smaller\n"
growth_text (Some growth.Length) = codes "error proof\n"
growth_text (Some growth.Invalid) = codes "error invalid\n"

-- what is answered to the bytes of two roots and a proof
abbrev pub growth_request : ℕ → List ℕ → ℕ → List ℕ → List (List ℕ) → Result (List ℕ) LineError
growth_request old_size old_root new_size new_root proof =
    and_then (digest_of old_root) (λ old_root.
    and_then (digest_of new_root) (λ new_root.
    and_then (digests_of proof) (λ proof.
    Ok (growth_text (growth_refusal old_size old_root new_size new_root proof)))))

-- a line has a size and a root twice, and a proof
abbrev pub growth_answer : List (List ℕ) → Result (List ℕ) LineError
growth_answer fields =
    if has_proof 5 fields then
    and_then (size_at fields 1) (λ old_size.
    and_then (size_at fields 3) (λ new_size.
    and_then (bytes_at fields 2) (λ old_root.
    and_then (bytes_at fields 4) (λ new_root.
    and_then (all_bytes_at fields 5) (λ proof.
    growth_request old_size old_root new_size new_root proof)))))
    else Err Fields

-- whether a line is one on a proof, and what is answered then
abbrev pub is_presence : List (List ℕ) → Bool
is_presence fields = bytes_eq (field_at fields 0) (codes "presence")

abbrev pub is_growth : List (List ℕ) → Bool
is_growth fields = bytes_eq (field_at fields 0) (codes "growth")
