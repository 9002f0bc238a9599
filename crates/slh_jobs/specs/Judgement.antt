-- What the answer to a job is. Z is the scheme of its parameter set, of values of n bytes.
use Rattle.std.specs.Prelude.{◌≡◌, ◌⊎◌, ℕ, List, [], ◌∷◌, Option, None, Some, Result, Ok, Err, ⊤}
use Rattle.std.specs.Prelude.{if◌then◌else◌}
use Rattle.slh_core.specs.Parameters.{Scheme}
use Rattle.slh_trees.specs.Keys.{signing_key_bytes}
use Rattle.slh_trees.specs.Signing.{signature_of}
use Rattle.slh_core.specs.Refusals.{first_refusal}
use Rattle.slh_frames.specs.Frames.{mode_frame}
use Rattle.slh_dsa.specs.Calls.{is_valid, keygen_refusal, sign_input_refusal}
use Rattle.slh_dsa.specs.Calls.{signing_key_refusal, verify_refusal, verifying_key_refusal}
use Rattle.slh_audit.specs.Evidence.{dispute_of, shows}
use Rattle.slh_audit.specs.Verdicts.{message_audit}
use Rattle.slh_audit.specs.declared.evidence.AuditError.{AuditError}
use Rattle.slh_audit.specs.declared.evidence.Verdict.{Verdict}
use Rattle.slh_dsa.specs.declared.error.Error.{Error as KeyError}
use Rattle.slh_jobs.specs.Errors.{audit_error_of, error_of}
use Rattle.slh_jobs.specs.declared.job.Job.{Job}
use Rattle.slh_jobs.specs.declared.job.Job.TheVariants.{Keygen, Sign, Verify, Audit, Check}
use Rattle.slh_jobs.specs.declared.job.Answer.{Answer}
use Rattle.slh_jobs.specs.declared.job.Answer.TheVariants.{Key, Signature, Accepted, Shown}
use Rattle.slh_jobs.specs.declared.job.Answer.TheVariants.{Verdict as VerdictAnswer}
use Rattle.slh_jobs.specs.declared.job.Error.{Error}
use Rattle.slh_jobs.specs.declared.job.Error.TheVariants.{Invalid, Memory}

-- the first refusal that the sizes of what is audited or checked give
abbrev pub audit_refusal : Scheme → List ℕ → List ℕ → List ℕ → List ℕ → Option KeyError
audit_refusal Z key context message signature = first_refusal
    (signing_key_refusal Z key ∷ verify_refusal Z context message signature ∷ [])

-- the first refusal that the sizes of a job's fields give, if any does, whatever the mode
abbrev pub size_refusal : Scheme → Job → Option KeyError
size_refusal Z (Keygen sk_seed sk_prf pk_seed) = keygen_refusal Z sk_seed sk_prf pk_seed
size_refusal Z (Sign mode key context message randomizer) = first_refusal
    (signing_key_refusal Z key ∷ sign_input_refusal Z context randomizer message ∷ [])
size_refusal Z (Verify mode key context message signature) = first_refusal
    (verifying_key_refusal Z key ∷ verify_refusal Z context message signature ∷ [])
size_refusal Z (Audit mode key context message signature) =
    audit_refusal Z key context message signature
size_refusal Z (Check mode key context message signature evidence) =
    audit_refusal Z key context message signature

-- what an audit says, as an answer to a job
abbrev pub verdict_answer : Result Verdict AuditError → Result Answer Error
verdict_answer (Ok verdict) = Ok (VerdictAnswer verdict)
verdict_answer (Err refusal) = Err (audit_error_of refusal)

-- the answer to a job whose sizes are right
abbrev pub answer_to : Scheme → Job → Result Answer Error
answer_to Z (Keygen sk_seed sk_prf pk_seed) = Ok (Key (signing_key_bytes Z sk_seed sk_prf pk_seed))
answer_to Z (Sign mode key context message randomizer) =
    Ok (Signature (signature_of Z key randomizer (mode_frame mode context message)))
answer_to Z (Verify mode key context message signature) =
    if is_valid Z mode key context message signature then Ok Accepted else Err Invalid
answer_to Z (Audit mode key context message signature) =
    verdict_answer (message_audit Z key (mode_frame mode context message) signature)
answer_to Z (Check mode key context message signature evidence) =
    Ok (Shown (shows (dispute_of Z key (mode_frame mode context message) signature) evidence))

abbrev pub refused_or : Option KeyError → Result Answer Error → Result Answer Error
refused_or None answer = answer
refused_or (Some refusal) answer = Err (error_of refusal)

-- the one answer to a job, want of memory aside
abbrev pub judgement : Scheme → Job → Result Answer Error
judgement Z job = refused_or (size_refusal Z job) (answer_to Z job)

-- the answer's bytes need memory
abbrev pub NeedsMemory : Job → Type 0
NeedsMemory (Keygen sk_seed sk_prf pk_seed) = ⊤
NeedsMemory (Sign mode key context message randomizer) = ⊤
NeedsMemory (Verify mode key context message signature) = ⊥
NeedsMemory (Audit mode key context message signature) = ⊥
NeedsMemory (Check mode key context message signature evidence) = ⊥

-- a job whose sizes are right found no memory for its answer's bytes
abbrev pub RunsOutOfMemory : Scheme → Job → Result Answer Error → Type 0
RunsOutOfMemory Z job result = (result ≡ Err Memory) × NeedsMemory job × (size_refusal Z job ≡ None)

-- the result is the answer to the job, or want of memory
abbrev pub IsJudged : Scheme → Job → Result Answer Error → Type 0
IsJudged Z job result = (result ≡ judgement Z job) ⊎ RunsOutOfMemory Z job result
