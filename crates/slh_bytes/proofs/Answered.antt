-- What is answered where a call refuses.
use Rattle.std.proofs.Common.{◌≡◌, ℕ, List, [], Option, None, Some, Result, Ok, Err, refl}
use Rattle.std.specs.Prelude.{IsErrAnd, unwrap_or}
use Rattle.slh_bytes.specs.Answers.{IsAnswer}
use Rattle.slh_bytes.specs.Absorbing.{AbsorbsAll, GoesOn, IsAll}
use Rattle.slh_bytes.specs.Terms.{Terms}
use Rattle.slh_bytes.specs.declared.read_error.ReadError.{ReadError}
use Rattle.slh_bytes.specs.declared.read_error.ReadError.TheVariants.{Read, Refused, Changed}
use Rattle.slh_jobs.specs.declared.job.Error.{Error}
use Rattle.slh_jobs.specs.declared.job.Error.TheVariants.{MessageTooLong}
use Rattle.slh_core.specs.Refusals.{message_refusal}

-- some bytes are all that is left
pub left_is_all : (left : Option (List ℕ)) → IsAll left (unwrap_or left [])
left_is_all None = tt
left_is_all (Some all) = refl

-- before anything was read
pub refused_before : {T : Type 0} (Fault : Type 0) (left : Option (List ℕ)) (answer : List ℕ → Result T Error) (result : Result T ReadError) (e : Error)
    → ((m : List ℕ) → answer m ≡ Err e) → IsErrAnd result (λ f. f ≡ Refused e) → IsAnswer Fault left answer result
refused_before Fault left answer (Ok x) e refused never = absurd never
refused_before Fault left answer (Err f) e refused is = rw is (unwrap_or left [], left_is_all left, refused (unwrap_or left []))

-- as it was read
pub refused_within : {T U : Type 0} (stands : T → Terms → List ℕ → Type 0) (old new : T) (terms : Terms) (Fault : Type 0) (left : Option (List ℕ))
    (answer : List ℕ → Result U Error) (result : Result U ReadError) (f : ReadError) → stands old terms []
    → ((m : List ℕ) (e : Error) → message_refusal MessageTooLong m ≡ Some e → answer m ≡ Err e)
    → AbsorbsAll stands old new Fault left (Err f) → IsErrAnd result (λ x. x ≡ f) → IsAnswer Fault left answer result
unfolding AbsorbsAll
refused_within stands old new terms Fault left answer (Ok x) f begun long ends never = absurd never
refused_within stands old new terms Fault left answer (Err x) (Read fault) begun long failed is = rw is failed
refused_within stands old new terms Fault left answer (Err x) (Refused e) begun long (all, whole, refused) is =
    rw is (all, whole, long all e (refused terms begun))
refused_within stands old new terms Fault left answer (Err x) Changed begun long never is = absurd never

-- what was absorbed
pub absorbed : {T : Type 0} (stands : T → Terms → List ℕ → Type 0) (old new : T) (Fault : Type 0) (left : Option (List ℕ)) (done : Unit {0})
    → AbsorbsAll stands old new Fault left (Ok done) → (all : List ℕ) × IsAll left all × GoesOn stands old new [] all
unfolding AbsorbsAll
absorbed stands old new Fault left done ends = ends
