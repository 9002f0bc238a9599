-- The first cause for which a job is refused, and its answer where there is none.
use Rattle.std.proofs.Common.{◌≡◌, ◌≢◌, ℕ, ◌^◌, List, [], ◌∷◌, length, Bool, true, false, Option, None, Some, Result, Ok, Err, refl, if◌then◌else◌}
use Rattle.std.specs.Prelude.{nat_lt, is_ok}
use Rattle.slh_dsa.specs.declared.error.Error.{Error as KeyError}
use Rattle.slh_dsa.specs.declared.error.Error.TheVariants as key
use Rattle.slh_bytes.specs.Jobs.{accepted_by, signature_by}
use Rattle.slh_jobs.specs.Errors.{error_of}
use Rattle.slh_jobs.specs.Judgement.{refused_or}
use Rattle.slh_jobs.specs.declared.job.Answer.{Answer}
use Rattle.slh_jobs.specs.declared.job.Answer.TheVariants.{Accepted, Signature}
use Rattle.slh_jobs.specs.declared.job.Error.{Error}
use Rattle.slh_jobs.specs.declared.job.Error.TheVariants as job
use Rattle.std.specs.Bool.{◌==◌}
use Rattle.slh_core.specs.Refusals.{RefusedExactly, context_refusal, first_refusal, length_refusal, message_refusal}

too_long_by : (b : Bool) (e : Error) → (if b then Some job.MessageTooLong else None) ≡ Some e
    → ((if b then Some key.MessageTooLong else None) ≡ Some key.MessageTooLong) × (e ≡ job.MessageTooLong)
too_long_by true e refused = (refl, cc)
too_long_by false e refused = cc

-- a message is too long for the job and for the calls on keys
pub too_long : (m : List ℕ) (e : Error) → message_refusal job.MessageTooLong m ≡ Some e
    → (message_refusal key.MessageTooLong m ≡ Some key.MessageTooLong) × (e ≡ job.MessageTooLong)
too_long m e refused = too_long_by (nat_lt (2 ^ 60) (length m)) e refused

fits_by : (b : Bool) → (if b then Some job.MessageTooLong else None) ≡ None → (if b then Some key.MessageTooLong else None) ≡ None
fits_by true none = cc
fits_by false none = refl

pub fits : (m : List ℕ) → message_refusal job.MessageTooLong m ≡ None → message_refusal key.MessageTooLong m ≡ None
fits m none = fits_by (nat_lt (2 ^ 60) (length m)) none

-- what is refused of the empty message is refused of each
pub begun : {E : Type 0} (a c m : Option E) (e : E) → first_refusal (a ∷ c ∷ None ∷ []) ≡ Some e → first_refusal (a ∷ c ∷ m ∷ []) ≡ Some e
begun (Some x) c m e refused = refused
begun None (Some x) m e refused = refused
begun None None m e refused = cc

-- where that is nothing, the message itself decides
pub later : {E : Type 0} (a c m : Option E) → first_refusal (a ∷ c ∷ None ∷ []) ≡ None → first_refusal (a ∷ c ∷ m ∷ []) ≡ first_refusal (m ∷ [])
later None None m none = refl
later (Some x) c m none = cc
later None (Some x) m none = cc

alone : {E : Type 0} (m r : Option E) → m ≡ r → first_refusal (m ∷ []) ≡ r
alone m None is = rw is refl
alone m (Some e) is = rw is refl

pub decided : {E : Type 0} (a c m r : Option E) → first_refusal (a ∷ c ∷ None ∷ []) ≡ None → m ≡ r → first_refusal (a ∷ c ∷ m ∷ []) ≡ r
decided a c m r none is = rw (later a c m none) (alone m r is)

-- a verdict

told : (e : KeyError) → e ≢ key.Invalid → accepted_by (Err (error_of e)) ≡ Err (error_of e)
told key.Length other = refl
told key.ContextTooLong other = refl
told key.RandomizerLength other = refl
told key.MessageTooLong other = refl
told key.Invalid other = absurd (other refl)
told key.Memory other = refl

key_cause_by : (b : Bool) (e : KeyError) → (if b then None else Some key.Length) ≡ Some e → e ≡ key.Length
key_cause_by true e refused = cc
key_cause_by false e refused = cc

size_cause_by : (a b : Bool) (e : KeyError)
    → first_refusal ((if a then None else Some key.Length) ∷ (if b then Some key.ContextTooLong else None) ∷ None ∷ []) ≡ Some e → e ≢ key.Invalid
size_cause_by false b e refused is = cc
size_cause_by true true e refused is = cc
size_cause_by true false e refused is = cc

-- why a key is none
pub key_cause : (wanted len : ℕ) (e : KeyError) → length_refusal key.Length wanted len ≡ Some e → e ≡ key.Length
key_cause wanted len e refused = key_cause_by (len == wanted) e refused

-- why verifying isn't begun
pub size_cause : (wanted len : ℕ) (context : List ℕ) (e : KeyError)
    → first_refusal (length_refusal key.Length wanted len ∷ context_refusal key.ContextTooLong context ∷ None ∷ []) ≡ Some e → e ≢ key.Invalid
size_cause wanted len context e refused = size_cause_by (len == wanted) (nat_lt 255 (length context)) e refused

pub key_refused : (k later : Option KeyError) (answer : Result Answer Error) (e : KeyError) → k ≡ Some e → e ≡ key.Length
    → accepted_by (refused_or (first_refusal (k ∷ later ∷ [])) answer) ≡ Err (error_of e)
key_refused k later answer e is length_is = rw is (told e (λ other. cc (length_is, other)))

pub size_refused : (k size : Option KeyError) (answer : Result Answer Error) (e : KeyError) → k ≡ None → size ≡ Some e → e ≢ key.Invalid
    → accepted_by (refused_or (first_refusal (k ∷ size ∷ [])) answer) ≡ Err (error_of e)
size_refused k size answer e none is other = rw (none, is) (told e other)

by_root : (valid : Bool) (r : Result (Unit {0}) KeyError) → RefusedExactly r (if valid then None else Some key.Invalid)
    → accepted_by (if valid then Ok Accepted else Err job.Invalid) ≡ Ok (is_ok r)
by_root true (Ok x) exact = refl
by_root true (Err e) exact = cc
by_root false (Ok x) exact = cc
by_root false (Err e) exact = refl

exact_after : (size : Option KeyError) (valid : Bool) (r : Result (Unit {0}) KeyError) → size ≡ None
    → RefusedExactly r (first_refusal (size ∷ (if valid then None else Some key.Invalid) ∷ []))
    → RefusedExactly r (if valid then None else Some key.Invalid)
exact_after size true r none exact = rw none at exact
exact_after size false r none exact = rw none at exact

-- what was verified is the verdict
pub verdict_is : (k size : Option KeyError) (valid : Bool) (r : Result (Unit {0}) KeyError) → k ≡ None → size ≡ None
    → RefusedExactly r (first_refusal (size ∷ (if valid then None else Some key.Invalid) ∷ []))
    → accepted_by (refused_or (first_refusal (k ∷ size ∷ [])) (if valid then Ok Accepted else Err job.Invalid)) ≡ Ok (is_ok r)
verdict_is k size valid r no_key no_size exact = rw (no_key, no_size) (by_root valid r (exact_after size valid r no_size exact))

-- a signature

pub signing_refused : (k input : Option KeyError) (answer : Result Answer Error) (e : KeyError) → k ≡ Some e
    → signature_by (refused_or (first_refusal (k ∷ input ∷ [])) answer) ≡ Err (error_of e)
signing_refused k input answer e is = rw is refl

pub input_refused : (k input : Option KeyError) (answer : Result Answer Error) (e : KeyError) → k ≡ None → input ≡ Some e
    → signature_by (refused_or (first_refusal (k ∷ input ∷ [])) answer) ≡ Err (error_of e)
input_refused k input answer e none is = rw (none, is) refl

pub signature_is : (k input : Option KeyError) (signature made : List ℕ) → k ≡ None → input ≡ None → signature ≡ made
    → signature_by (refused_or (first_refusal (k ∷ input ∷ [])) (Ok (Signature made))) ≡ Ok signature
signature_is k input signature made no_key no_input is = rw (no_key, no_input, is) refl
