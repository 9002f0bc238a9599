-- What a job line asks for, by its fields (docs/LINES.md).
use Rattle.std.specs.Prelude.{◌==◌, ℕ, List, [], ◌∷◌, length, drop, Bool, true, Option, None, Some}
use Rattle.std.specs.Prelude.{Result, Ok, Err, codes, if◌then◌else◌}
use Rattle.std.specs.List.{find}
use Rattle.std.specs.Str.{bytes_eq}
use Rattle.line_serve.specs.Fields.{field_at}
use Rattle.slh_frames.specs.declared.frame.Mode.TheVariants.{Pure, Sha256, Sha512}
use Rattle.slh_line.specs.Readings.{and_then, bytes_at, randomizer_at, some_or_fields}
use Rattle.slh_line.specs.declared.line_error.LineError.{LineError}
use Rattle.slh_line.specs.declared.line_error.LineError.TheVariants as line_error
use Rattle.slh_jobs.specs.EvidenceWords.{evidence_in}
use Rattle.slh_jobs.specs.declared.job.Job.{Job}
use Rattle.slh_jobs.specs.declared.job.Job.TheVariants as job
use Rattle.slh_run.specs.declared.request.Command.{Command}
use Rattle.slh_run.specs.declared.request.Command.TheVariants.{Keygen, Sign, Verify, Audit, Check}
use Rattle.slh_run.specs.declared.request.KeyedMessage.{KeyedMessage}

-- The commands, by their names. All but keygen may end with the hash function by whose digest the
-- message is signed
abbrev pub command_name : Command → List ℕ
command_name Keygen = codes "keygen"
command_name (Sign Pure) = codes "sign"
command_name (Sign Sha256) = codes "sign-sha256"
command_name (Sign Sha512) = codes "sign-sha512"
command_name (Verify Pure) = codes "verify"
command_name (Verify Sha256) = codes "verify-sha256"
command_name (Verify Sha512) = codes "verify-sha512"
command_name (Audit Pure) = codes "audit"
command_name (Audit Sha256) = codes "audit-sha256"
command_name (Audit Sha512) = codes "audit-sha512"
command_name (Check Pure) = codes "check"
command_name (Check Sha256) = codes "check-sha256"
command_name (Check Sha512) = codes "check-sha512"

abbrev pub all_commands : List Command
all_commands =
    Keygen
    ∷ Sign Pure ∷ Sign Sha256 ∷ Sign Sha512
    ∷ Verify Pure ∷ Verify Sha256 ∷ Verify Sha512
    ∷ Audit Pure ∷ Audit Sha256 ∷ Audit Sha512
    ∷ Check Pure ∷ Check Sha256 ∷ Check Sha512 ∷ []

-- the command with a name, if there is one
unfoldable pub command_named : List ℕ → Option Command
command_named name = find (λ command. bytes_eq name (command_name command)) all_commands

-- how many fields the line of a command has
--   SET keygen SEED PRF PKSEED
--   SET sign KEY CTX MSG RAND
--   SET verify VK CTX MSG SIG
--   SET audit KEY CTX MSG SIG
-- and whether it has them, in every mode. That of check, SET check KEY CTX MSG SIG KIND NUMBERS,
-- has as many as its kind of evidence asks for, which are judged with the kind itself
abbrev pub has_fields : Command → ℕ → Bool
has_fields Keygen count = count == 5
has_fields (Sign mode) count = count == 6
has_fields (Verify mode) count = count == 6
has_fields (Audit mode) count = count == 6
has_fields (Check mode) count = true

-- the key, the context and the message of a line
abbrev pub keyed_message_of : List (List ℕ) → Result KeyedMessage LineError
keyed_message_of fields =
    and_then (bytes_at fields 2) (λ key.
    and_then (bytes_at fields 3) (λ context.
    and_then (bytes_at fields 4) (λ message.
    Ok (record { key = key; context = context; message = message }))))

-- the job of a command, whose line has the right number of fields
abbrev pub job_of : Command → List (List ℕ) → Result Job LineError
job_of Keygen fields =
    and_then (bytes_at fields 2) (λ sk_seed.
    and_then (bytes_at fields 3) (λ sk_prf.
    and_then (bytes_at fields 4) (λ pk_seed.
    Ok (job.Keygen sk_seed sk_prf pk_seed))))
job_of (Sign mode) fields =
    and_then (keyed_message_of fields) (λ keyed.
    and_then (randomizer_at fields 5) (λ randomizer.
    Ok (job.Sign mode keyed.key keyed.context keyed.message randomizer)))
job_of (Verify mode) fields =
    and_then (keyed_message_of fields) (λ keyed.
    and_then (bytes_at fields 5) (λ signature.
    Ok (job.Verify mode keyed.key keyed.context keyed.message signature)))
job_of (Audit mode) fields =
    and_then (keyed_message_of fields) (λ keyed.
    and_then (bytes_at fields 5) (λ signature.
    Ok (job.Audit mode keyed.key keyed.context keyed.message signature)))
job_of (Check mode) fields =
    and_then (some_or_fields (evidence_in (drop 6 fields))) (λ evidence.
    and_then (keyed_message_of fields) (λ keyed.
    and_then (bytes_at fields 5) (λ signature.
    Ok (job.Check mode keyed.key keyed.context keyed.message signature evidence))))

-- the job of a line whose second field was found to name a command, or to name none
abbrev pub job_for : Option Command → List (List ℕ) → Result Job LineError
job_for None fields = Err line_error.Command
job_for (Some command) fields =
    if has_fields command (length fields) then job_of command fields else Err line_error.Fields

-- the job of a line whose first field names a set, or the first thing that is wrong with it
abbrev pub job_at : List (List ℕ) → Result Job LineError
job_at fields = job_for (command_named (field_at fields 1)) fields
