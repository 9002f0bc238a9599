-- Signatures that are handed out, and what is told of audits.
use Rattle.std.specs.Prelude.{◌≡◌, ◌≢◌, ℕ, List, Option, None, Some, Result, Ok, Err}
use Rattle.slh_audit.specs.declared.evidence.Evidence.{Evidence}
use Rattle.slh_audit.specs.declared.evidence.Verdict.{Verdict}
use Rattle.slh_audit.specs.declared.evidence.Verdict.TheVariants.{Genuine, Foreign as ForeignVerdict}
use Rattle.slh_core.specs.Parameters.{Scheme}
use Rattle.slh_bytes.specs.declared.outcome.Outcome.{Outcome}
use Rattle.slh_bytes.specs.declared.outcome.Outcome.TheVariants.{Genuine as GenuineOutcome}
use Rattle.slh_bytes.specs.declared.outcome.Outcome.TheVariants.{Foreign as ForeignOutcome}
use Rattle.slh_bytes.specs.declared.outcome.Outcome.TheVariants.{Invalid as InvalidOutcome}
use Rattle.slh_frames.specs.declared.frame.Mode.{Mode}
use Rattle.slh_frames.specs.declared.frame.Mode.TheVariants.{Pure, Sha256, Sha512}
use Rattle.slh_jobs.specs.declared.job.Error.{Error}
use Rattle.slh_jobs.specs.declared.job.Error.TheVariants.{Invalid}
use Rattle.slh_bytes.specs.Answers.{IsAnswer, IsSigned, IsSignedTwice, digest_answer}
use Rattle.slh_bytes.specs.declared.read_error.ReadError.{ReadError}
use Rattle.slh_bytes.specs.declared.read_error.ReadError.TheVariants.{Refused}
use Rattle.slh_bytes.specs.declared.signed_files.Doubt.{Doubt}
use Rattle.slh_bytes.specs.declared.signed_files.Doubt.TheVariants.{Foreign}
use Rattle.slh_bytes.specs.declared.signed_files.Doubt.TheVariants.{Invalid as InvalidSignature}
use Rattle.slh_bytes.specs.declared.signed_files.Doubt.TheVariants.{Unread}

-- It is the signature of what two inputs have, which has to be the same; of its digest, what the first
-- one has.
abbrev pub IsSignatureOf : Scheme → Mode → List ℕ → List ℕ → Option (List ℕ) → Option (List ℕ)
    → Option (List ℕ) → List ℕ → Type 0
IsSignatureOf Z Pure key context opt_rand left again signature =
    IsSignedTwice Z key context opt_rand ⊥ left again (Ok signature)
IsSignatureOf Z Sha256 key context opt_rand left again signature =
    IsSigned ⊥ left (digest_answer Z Sha256 key context opt_rand) (Ok signature)
IsSignatureOf Z Sha512 key context opt_rand left again signature =
    IsSigned ⊥ left (digest_answer Z Sha512 key context opt_rand) (Ok signature)

-- The signature is handed out where it is genuine, and else the verdict is told on what an input had
-- left, or why there is none. `Fault` is that a read of it may fail.
abbrev pub IsAudited : Type 0 → Option (List ℕ) → (List ℕ → Result Verdict Error) → List ℕ
    → Result (List ℕ) Doubt → Type 0
IsAudited Fault left verdict signature (Ok given) =
    (given ≡ signature) × IsAnswer Fault left verdict (Ok Genuine)
IsAudited Fault left verdict signature (Err Foreign) =
    (evidence : Evidence) × IsAnswer Fault left verdict (Ok (ForeignVerdict evidence))
IsAudited Fault left verdict signature (Err (InvalidSignature given)) =
    (given ≡ signature) × IsAnswer Fault left verdict (Err (Refused Invalid))
IsAudited Fault left verdict signature (Err (Unread error)) =
    (error ≢ Refused Invalid) × IsAnswer Fault left verdict (Err error)

-- an audit is told so, with its evidence; why there is none is handed on
abbrev pub IsAuditTold : Result Verdict ReadError → Result (Outcome × Option Evidence) ReadError
    → Type 0
IsAuditTold audited (Ok (GenuineOutcome, None)) = audited ≡ Ok Genuine
IsAuditTold audited (Ok (ForeignOutcome, Some evidence)) = audited ≡ Ok (ForeignVerdict evidence)
IsAuditTold audited (Ok (InvalidOutcome, None)) = audited ≡ Err (Refused Invalid)
IsAuditTold audited (Ok _) = ⊥
IsAuditTold audited (Err error) = (audited ≡ Err error) × (error ≢ Refused Invalid)
