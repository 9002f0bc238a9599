-- What is answered for the bytes that inputs gave. `Fault` is that a read may fail.
use Rattle.std.specs.Prelude.{◌≡◌, ◌≢◌, ◌⊎◌, ℕ, List, Option, Result, Ok, Err}
use Rattle.slh_core.specs.Parameters.{Scheme}
use Rattle.slh_bytes.specs.Jobs.{signature_by}
use Rattle.slh_frames.specs.Frames.{frame}
use Rattle.slh_frames.specs.declared.frame.Mode.{Mode}
use Rattle.slh_frames.specs.declared.frame.Mode.TheVariants.{Pure, Sha256, Sha512}
use Rattle.slh_bytes.specs.Absorbing.{IsAll}
use Rattle.slh_bytes.specs.declared.read_error.ReadError.{ReadError}
use Rattle.slh_bytes.specs.declared.read_error.ReadError.TheVariants.{Read, Refused, Changed}
use Rattle.slh_jobs.specs.Judgement.{judgement}
use Rattle.slh_jobs.specs.declared.job.Error.{Error}
use Rattle.slh_jobs.specs.declared.job.Error.TheVariants.{Length, Memory}
use Rattle.slh_jobs.specs.declared.job.Job.TheVariants.{Sign}
use Rattle.slh_stream.specs.Passes.{randomizer_for}
use Rattle.slh_trees.specs.Signing.{signature_of}

-- The answer is that for some bytes, which are all that the input had, where that is known; or a read
-- failed.
abbrev pub IsAnswer : {T : Type 0} → Type 0 → Option (List ℕ) → (List ℕ → Result T Error)
    → Result T ReadError → Type 0
IsAnswer Fault left answer (Ok value) = (m : List ℕ) × IsAll left m × (answer m ≡ Ok value)
IsAnswer Fault left answer (Err (Read fault)) = Fault
IsAnswer Fault left answer (Err (Refused refusal)) =
    (m : List ℕ) × IsAll left m × (answer m ≡ Err refusal)
IsAnswer Fault left answer (Err Changed) = ⊥

-- the answer to a job that signs
abbrev pub signing_answer : Scheme → Mode → List ℕ → List ℕ → Option (List ℕ) → List ℕ
    → Result (List ℕ) Error
signing_answer Z mode key context opt_rand m =
    signature_by (judgement Z (Sign mode key context m opt_rand))

-- the same in one pass, which the mode Pure doesn't allow
abbrev pub digest_answer : Scheme → Mode → List ℕ → List ℕ → Option (List ℕ) → List ℕ
    → Result (List ℕ) Error
digest_answer Z Pure key context opt_rand m = Err Length
digest_answer Z Sha256 key context opt_rand m = signing_answer Z Sha256 key context opt_rand m
digest_answer Z Sha512 key context opt_rand m = signing_answer Z Sha512 key context opt_rand m

-- that answer, or want of memory
abbrev pub IsSigned : {T : Type 0} → Type 0 → Option (List ℕ) → (List ℕ → Result T Error)
    → Result T ReadError → Type 0
IsSigned Fault left answer result = IsAnswer Fault left answer result ⊎ (result ≡ Err (Refused Memory))

-- A second pass ends in the signature of what it stands for, where PRF_msg of that is R, and else as
-- changed, unless memory is wanting.
unfoldable pub EndsPass : Scheme → (List ℕ → Option (List ℕ) → List ℕ → List ℕ → Type 0) → List ℕ
    → Result (List ℕ) ReadError → Type 0
EndsPass Z passes rand (Ok signature) =
    (key : List ℕ) (opt_rand : Option (List ℕ)) (context m : List ℕ) → passes key opt_rand context m
    → (randomizer_for Z key opt_rand (frame context m) ≡ rand)
    × (signature ≡ signature_of Z key opt_rand (frame context m))
EndsPass Z passes rand (Err (Read fault)) = ⊥
EndsPass Z passes rand (Err (Refused refusal)) = refusal ≡ Memory
EndsPass Z passes rand (Err Changed) =
    (key : List ℕ) (opt_rand : Option (List ℕ)) (context m : List ℕ) → passes key opt_rand context m
    → randomizer_for Z key opt_rand (frame context m) ≢ rand

-- Two inputs gave some bytes. What the second one gave is signed where both have the same PRF_msg,
-- and refused as changed where they don't. A refusal is that of the bytes of one.
abbrev pub IsSignedTwice : Scheme → List ℕ → List ℕ → Option (List ℕ)
    → Type 0 → Option (List ℕ) → Option (List ℕ) → Result (List ℕ) ReadError → Type 0
IsSignedTwice Z key context opt_rand Fault left again (Ok signature) =
    (first second : List ℕ) × IsAll left first × IsAll again second
    × (randomizer_for Z key opt_rand (frame context first)
    ≡ randomizer_for Z key opt_rand (frame context second))
    × (signing_answer Z Pure key context opt_rand second ≡ Ok signature)
IsSignedTwice Z key context opt_rand Fault left again (Err (Read fault)) = Fault
IsSignedTwice Z key context opt_rand Fault left again (Err (Refused refusal)) =
    (refusal ≡ Memory)
    ⊎ ((m : List ℕ) × (IsAll left m ⊎ IsAll again m)
    × (signing_answer Z Pure key context opt_rand m ≡ Err refusal))
IsSignedTwice Z key context opt_rand Fault left again (Err Changed) =
    (first second : List ℕ) × IsAll left first × IsAll again second
    × (randomizer_for Z key opt_rand (frame context first)
    ≢ randomizer_for Z key opt_rand (frame context second))
