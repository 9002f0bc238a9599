-- The replies of the program. Z is the scheme of the line's set, whose name comes after it.
use Rattle.std.specs.Prelude.{ℕ, ◌==◌, List, [], ◌++◌, length, codes, decimal, unwrap_or}
use Rattle.std.specs.Prelude.{Option, None, Some, Result, Ok, Err, if◌then◌else◌}
use Rattle.std.specs.Str.{bytes_eq}
use Rattle.hex.specs.Hex.{encode_lower}
use Rattle.line_serve.specs.Fields.{field_at, fields}
use Rattle.line_serve.specs.Texts.{hex_line}
use Rattle.slh_core.specs.Parameters.{Scheme}
use Rattle.slh_line.specs.Readings.{and_then, bytes_at, checked_randomizer, randomizer_at}
use Rattle.slh_line.specs.Readings.{signing_key, verifying_key}
use Rattle.slh_line.specs.Replies.{Answers, reply_to_fields, text_of as text_of_answer}
use Rattle.slh_line.specs.declared.line_error.LineError.{LineError}
use Rattle.slh_line.specs.declared.line_error.LineError.TheVariants.{Command, Fields}
use Rattle.slh_log.specs.Calls.{open_refusal}
use Rattle.slh_log.specs.Reading.{is_origin, read_root, read_size, text_of}
use Rattle.slh_log.specs.Texts.{signed_checkpoint}
use Rattle.slh_log.specs.declared.error.OpenError.{OpenError}
use Rattle.slh_log.specs.declared.error.OpenError.TheVariants as opening
use Rattle.slh_log_cli.specs.Proofs.{digest_of, growth_answer, is_growth, is_presence}
use Rattle.slh_log_cli.specs.Proofs.{presence_answer, size_at}

abbrev pub usage : List ℕ
usage = codes "usage: slh_log_cli\n"

-- what is answered to the text of an origin, a size and a root
abbrev pub checkpoint_text : Scheme → List ℕ → List ℕ → Option (List ℕ) → List ℕ → ℕ → List ℕ
    → List ℕ
checkpoint_text Z set key opt_rand origin size root =
    if is_origin origin
    then hex_line (codes "checkpoint ") (signed_checkpoint Z set key opt_rand origin size root)
    else codes "error origin\n"

-- what is answered to the bytes of a line, and its size
abbrev pub checkpoint_request : Scheme → List ℕ → List ℕ → Option (List ℕ) → List ℕ → ℕ → List ℕ
    → Result (List ℕ) LineError
checkpoint_request Z set key opt_rand origin size root =
    and_then (signing_key Z key) (λ key.
    and_then (digest_of root) (λ root.
    and_then (checked_randomizer Z opt_rand) (λ opt_rand.
    Ok (checkpoint_text Z set key opt_rand (text_of origin) size root))))

-- a line has a key, an origin, a size, a root, and a randomizer
abbrev pub checkpoint_answer : Scheme → List ℕ → List (List ℕ) → Result (List ℕ) LineError
checkpoint_answer Z set fields =
    if length fields == 7 then
    and_then (size_at fields 4) (λ size.
    and_then (bytes_at fields 2) (λ key.
    and_then (bytes_at fields 3) (λ origin.
    and_then (bytes_at fields 5) (λ root.
    and_then (randomizer_at fields 6) (λ opt_rand.
    checkpoint_request Z set key opt_rand origin size root)))))
    else Err Fields

-- the size and the root of a head
abbrev pub head_text : ℕ → List ℕ → List ℕ
head_text size root =
    codes "head " ++ decimal size ++ codes " " ++ encode_lower root ++ codes "\n"

-- what is answered to a checkpoint
abbrev pub open_text : List ℕ → Option OpenError → List ℕ
open_text checkpoint None =
    head_text (unwrap_or (read_size checkpoint) 0) (unwrap_or (read_root checkpoint) [])
open_text checkpoint (Some opening.Form) = codes "error form\n"
open_text checkpoint (Some opening.Origin) = codes "error origin\n"
open_text checkpoint (Some opening.Unsigned) = codes "error unsigned\n"
open_text checkpoint (Some opening.Invalid) = codes "error invalid\n"

-- what is answered to the bytes of a line
abbrev pub open_request : Scheme → List ℕ → List ℕ → List ℕ → List ℕ → Result (List ℕ) LineError
open_request Z set key origin checkpoint =
    and_then (verifying_key Z key) (λ key.
    Ok (open_text checkpoint (open_refusal Z set key (text_of origin) checkpoint)))

-- a line has a verifying key, an origin, and a checkpoint
abbrev pub open_answer : Scheme → List ℕ → List (List ℕ) → Result (List ℕ) LineError
open_answer Z set fields =
    if length fields == 5 then
    and_then (bytes_at fields 2) (λ key.
    and_then (bytes_at fields 3) (λ origin.
    and_then (bytes_at fields 4) (λ checkpoint.
    open_request Z set key origin checkpoint)))
    else Err Fields

-- lines that name a set
abbrev pub head_answers : Answers
head_answers Z set fields =
    if bytes_eq (field_at fields 1) (codes "checkpoint") then checkpoint_answer Z set fields
    else if bytes_eq (field_at fields 1) (codes "open") then open_answer Z set fields
    else Err Command

abbrev pub log_reply_to : List (List ℕ) → List ℕ
log_reply_to fields =
    if is_presence fields then text_of_answer (presence_answer fields)
    else if is_growth fields then text_of_answer (growth_answer fields)
    else reply_to_fields head_answers fields

abbrev pub log_reply : List ℕ → List ℕ
log_reply line = log_reply_to (fields line)
