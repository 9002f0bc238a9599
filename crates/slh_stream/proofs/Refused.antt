-- What is refused of a message that comes in two pieces.
use Rattle.std.proofs.Common.{◌≡◌, ℕ, ◌≤◌, ◌^◌, List, [], ◌∷◌, ◌++◌, length, Option, Some, None, refl, ap, inl, inr, if◌then◌else◌, arith, length-append}
use Rattle.std.specs.Prelude.{nat_lt, false, true, Result, Ok, Err, IsErrAnd}
use Rattle.std.proofs.lemmas.Bool.{cases_lt, lt-ltb, le-ltb}
use Rattle.slh_core.specs.Refusals.{RefusedExactly, first_refusal, message_refusal}

-- what is refused of the empty message is refused of each
pub begun_refused : {E : Type 0} (a c m r : Option E) (e : E) → first_refusal (a ∷ c ∷ None ∷ []) ≡ Some e
    → first_refusal (first_refusal (a ∷ c ∷ m ∷ []) ∷ r ∷ []) ≡ Some e
begun_refused (Some x) c m r e refused = refused
begun_refused None (Some x) m r e refused = refused
begun_refused None None m r e refused = cc

-- where that is nothing, the message itself may be
pub later_refused : {E : Type 0} (a c m r : Option E) (e : E) → first_refusal (a ∷ c ∷ None ∷ []) ≡ None → m ≡ Some e
    → first_refusal (first_refusal (a ∷ c ∷ m ∷ []) ∷ r ∷ []) ≡ Some e
later_refused None None m r e none is_m = rw is_m refl
later_refused (Some x) c m r e none is_m = cc
later_refused None (Some x) m r e none is_m = cc

above : {E : Type 0} (bound small large : ℕ) (e refusal : E) → small ≤ large
    → (if nat_lt bound small then Some e else None) ≡ Some refusal
    → (if nat_lt bound large then Some e else None) ≡ Some refusal
above bound small large e refusal most refused = elim (cases_lt bound small) [
  | inl more ↦ rw (lt-ltb bound large (omega (arith, more, most))) (rw (lt-ltb bound small more) at refused)
  | inr less ↦ absurd (cc (refused, ap (λ t. if t then Some e else None) (le-ltb bound small less)))
]

-- a message is too long where its first piece is
pub longer : {E : Type 0} (e refusal : E) (first second : List ℕ) → message_refusal e first ≡ Some refusal
    → message_refusal e (first ++ second) ≡ Some refusal
longer e refusal first second refused =
    above (2 ^ 60) (length first) (length (first ++ second)) e refusal (omega (arith, length-append first second)) refused

-- a refusal that a call hands on
pub handed_on : {T E : Type 0} (result : Result T E) (refusal : Option E) (e : E) → refusal ≡ Some e → IsErrAnd result (λ x. x ≡ e)
    → RefusedExactly result refusal
handed_on (Ok x) refusal e is_e never = absurd never
handed_on (Err x) refusal e is_e same = cc (is_e, same)

-- what is refused has a cause
pub never_none : {E : Type 0} (refusal : Option E) (e : E) → refusal ≡ Some e → refusal ≡ None → false ≡ true
never_none refusal e is_e none = cc (is_e, none)

-- where neither is refused for the first message, the second may be
pub second_refused : {E : Type 0} (a c m r : Option E) (e : E) → first_refusal (a ∷ c ∷ None ∷ []) ≡ None → m ≡ None
    → r ≡ Some e → first_refusal (first_refusal (a ∷ c ∷ m ∷ []) ∷ r ∷ []) ≡ Some e
second_refused None None m r e none no_m is_r = rw (no_m, is_r) refl
second_refused (Some x) c m r e none no_m is_r = cc
second_refused None (Some x) m r e none no_m is_r = cc

-- nothing is refused
pub none_refused : {E : Type 0} (a c m r : Option E) → first_refusal (a ∷ c ∷ None ∷ []) ≡ None → m ≡ None → r ≡ None
    → first_refusal (first_refusal (a ∷ c ∷ m ∷ []) ∷ r ∷ []) ≡ None
none_refused None None m r none no_m no_r = rw (no_m, no_r) refl
none_refused (Some x) c m r none no_m no_r = cc
none_refused None (Some x) m r none no_m no_r = cc
