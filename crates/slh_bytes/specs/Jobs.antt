-- What the answer to a job says.
use Rattle.std.specs.Prelude.{◌≡◌, ℕ, ◌*◌, Bool, true, false, List, take, drop, Option}
use Rattle.std.specs.Prelude.{Result, Ok, Err, if◌then◌else◌}
use Rattle.std.specs.Str.{bytes_eq}
use Rattle.slh_audit.specs.declared.evidence.Verdict.{Verdict}
use Rattle.slh_audit.specs.declared.evidence.Verdict.TheVariants.{Genuine}
use Rattle.slh_core.specs.Bytes.{part}
use Rattle.slh_core.specs.Parameters.{Scheme}
use Rattle.slh_frames.specs.declared.frame.Mode.{Mode}
use Rattle.slh_sets.specs.Sets.{scheme_for}
use Rattle.slh_sets.specs.declared.set.Set.{Set}
use Rattle.slh_jobs.specs.Judgement.{judgement}
use Rattle.slh_jobs.specs.declared.job.Answer.{Answer}
use Rattle.slh_jobs.specs.declared.job.Answer.TheVariants.{Signature, Shown}
use Rattle.slh_jobs.specs.declared.job.Answer.TheVariants.{Verdict as VerdictAnswer}
use Rattle.slh_jobs.specs.declared.job.Error.{Error}
use Rattle.slh_jobs.specs.declared.job.Error.TheVariants.{Invalid, KeyMismatch}
use Rattle.slh_jobs.specs.declared.job.Job.TheVariants.{Audit, Sign}
use Rattle.slh_trees.specs.Keys.{signing_key_bytes, top_root}
use Rattle.slh_bytes.specs.declared.error.KeyFileError.{KeyFileError}
use Rattle.slh_bytes.specs.declared.error.KeyFileError.TheVariants.{Root}
use Rattle.slh_bytes.specs.declared.key.Key.{Key}

-- the signing key of three seeds, which are the first bytes
abbrev pub made_by : Scheme → List ℕ → List ℕ
made_by Z bytes =
    signing_key_bytes Z
    (take Z.n bytes) (take Z.n (drop Z.n bytes)) (take Z.n (drop (2 * Z.n) bytes))

abbrev pub made_of : Set → List ℕ → List ℕ
made_of set bytes = made_by (scheme_for set) bytes

-- a signing key, where it is the one that its own seeds make
abbrev pub own_key : Result Key KeyFileError → Result Key KeyFileError
own_key (Err e) = Err e
own_key (Ok key) = if bytes_eq key.bytes (made_of key.set key.bytes) then Ok key else Err Root

-- no other answer is given to such a job
abbrev pub signature_by : Result Answer Error → Result (List ℕ) Error
signature_by (Ok (Signature bytes)) = Ok bytes
signature_by (Ok _) = Err Invalid
signature_by (Err e) = Err e

-- the key's root is that of its seeds
abbrev pub has_true_root : Scheme → List ℕ → Bool
has_true_root Z key = bytes_eq (part Z.n key 3) (top_root Z (part Z.n key 2) (part Z.n key 0))

-- the audit of what was signed finds what the key makes, or that the key's root is another
abbrev pub MadeIsGenuine : Scheme → Type 0
MadeIsGenuine Z =
    (mode : Mode) (key context message signature : List ℕ) (randomizer : Option (List ℕ))
    → judgement Z (Sign mode key context message randomizer) ≡ Ok (Signature signature)
    → judgement Z (Audit mode key context message signature)
    ≡ (if has_true_root Z key then Ok (VerdictAnswer Genuine) else Err KeyMismatch)

abbrev pub accepted_by : Result Answer Error → Result Bool Error
accepted_by (Ok _) = Ok true
accepted_by (Err Invalid) = Ok false
accepted_by (Err e) = Err e

abbrev pub verdict_by : Result Answer Error → Result Verdict Error
verdict_by (Ok (VerdictAnswer verdict)) = Ok verdict
verdict_by (Ok _) = Err Invalid
verdict_by (Err e) = Err e

abbrev pub shown_by : Result Answer Error → Result Bool Error
shown_by (Ok (Shown shown)) = Ok shown
shown_by (Ok _) = Err Invalid
shown_by (Err e) = Err e
