-- What becomes of a message that is read to be audited.
use Rattle.std.specs.Prelude.{◌≡◌, ℕ, List, None, Some, Option, Result, Ok, Err}
use Rattle.slh_core.specs.Parameters.{Scheme}
use Rattle.slh_dsa.specs.declared.error.Error.{Error as KeyError}
use Rattle.slh_audit.specs.Verdicts.{digest_of}
use Rattle.slh_frames.specs.Frames.{mode_frame}
use Rattle.slh_frames.specs.declared.frame.Mode.{Mode}
use Rattle.slh_bytes.specs.Absorbing.{IsAll}
use Rattle.slh_bytes.specs.declared.read_error.ReadError.{ReadError}
use Rattle.slh_bytes.specs.declared.read_error.ReadError.TheVariants.{Read, Refused, Changed}
use Rattle.slh_jobs.specs.Errors.{error_of}
use Rattle.slh_jobs.specs.Judgement.{audit_refusal}

-- The digest of some bytes is written, which are all that the reader had, where that is known, and
-- which no size refuses; or they are refused for the first size that does, or a read failed.
abbrev pub IsDigested : Scheme → Mode → List ℕ → List ℕ → List ℕ → Type 0 → Option (List ℕ)
    → List ℕ → Result (Unit {0}) ReadError → Type 0
IsDigested Z mode key context sig Fault left out (Ok _) =
    (m : List ℕ) × IsAll left m × (audit_refusal Z key context m sig ≡ None)
    × (out ≡ digest_of Z key (mode_frame mode context m) sig)
IsDigested Z mode key context sig Fault left out (Err (Read fault)) = Fault
IsDigested Z mode key context sig Fault left out (Err (Refused refusal)) =
    (m : List ℕ) × IsAll left m × (e : KeyError) × (audit_refusal Z key context m sig ≡ Some e)
    × (refusal ≡ error_of e)
IsDigested Z mode key context sig Fault left out (Err Changed) = ⊥
