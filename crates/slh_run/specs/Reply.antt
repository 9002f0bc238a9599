-- The reply to a line (docs/LINES.md).
use Rattle.std.specs.Prelude.{ℕ, ◌/◌, List, [], ◌++◌, length, drop, Result, Ok, Err, codes}
use Rattle.std.specs.Prelude.{Bool, if◌then◌else◌}
use Rattle.hex.specs.Hex.{encode_lower}
use Rattle.slh_audit.specs.declared.evidence.Verdict.{Verdict}
use Rattle.slh_audit.specs.declared.evidence.Verdict.TheVariants.{Genuine, Foreign}
use Rattle.slh_line.specs.Readings.{and_then}
use Rattle.slh_line.specs.Replies.{Answers, reply_by}
use Rattle.slh_jobs.specs.EvidenceWords.{evidence_text}
use Rattle.slh_jobs.specs.Judgement.{judgement}
use Rattle.slh_run.specs.Requests.{job_at}
use Rattle.slh_jobs.specs.declared.job.Answer.{Answer}
use Rattle.slh_jobs.specs.declared.job.Answer.TheVariants.{Key, Signature, Accepted, Shown}
use Rattle.slh_jobs.specs.declared.job.Answer.TheVariants.{Verdict as VerdictAnswer}
use Rattle.slh_jobs.specs.declared.job.Error.{Error}
use Rattle.slh_jobs.specs.declared.job.Error.TheVariants as error

-- the verifying key is the last half of a signing key
abbrev pub key_text : List ℕ → List ℕ
key_text key =
    codes "key " ++ encode_lower key ++ codes " " ++ encode_lower (drop (length key / 2) key)
    ++ codes "\n"

abbrev pub signature_text : List ℕ → List ℕ
signature_text signature = codes "sig " ++ encode_lower signature ++ codes "\n"

abbrev pub verdict_text : Verdict → List ℕ
verdict_text Genuine = codes "genuine\n"
verdict_text (Foreign evidence) = codes "foreign " ++ evidence_text evidence ++ codes "\n"

abbrev pub shown_text : Bool → List ℕ
shown_text shown = if shown then codes "shown\n" else codes "not shown\n"

abbrev pub error_text : Error → List ℕ
error_text error.Length = codes "error length\n"
error_text error.ContextTooLong = codes "error context\n"
error_text error.RandomizerLength = codes "error randomizer\n"
error_text error.MessageTooLong = codes "error message\n"
error_text error.KeyMismatch = codes "error key\n"
error_text error.Invalid = codes "error invalid\n"
error_text error.Memory = []

-- `Memory` has no text: it ends a run, and is never the one answer to a job
abbrev pub answer_text : Result Answer Error → List ℕ
answer_text (Ok (Key key)) = key_text key
answer_text (Ok (Signature signature)) = signature_text signature
answer_text (Ok Accepted) = codes "accepted\n"
answer_text (Ok (VerdictAnswer verdict)) = verdict_text verdict
answer_text (Ok (Shown shown)) = shown_text shown
answer_text (Err refusal) = error_text refusal

-- the reply to the fields of a line whose first field names a set
abbrev pub job_answers : Answers
job_answers Z name fields = and_then (job_at fields) (λ job. Ok (answer_text (judgement Z job)))

-- the reply to a line: none where it has no fields
abbrev pub reply_of_line : List ℕ → List ℕ
reply_of_line = reply_by job_answers
