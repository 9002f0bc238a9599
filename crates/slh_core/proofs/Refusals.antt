-- The first of several refusals, and where there is none.
use Rattle.std.proofs.Common.{◌≡◌, ℕ, ◌≤◌, List, ◌∷◌, Bool, true, false, Option, None, Some, refl, ap, inl, inr, if◌then◌else◌}
use Rattle.std.specs.Prelude.{nat_lt}
use Rattle.std.proofs.lemmas.Bool.{cases_lt, lt-ltb}
use Rattle.slh_core.specs.Refusals.{first_refusal}

-- the first is none only where each is
pub first_none : {E : Type 0} (r : Option E) (later : List (Option E)) → first_refusal (r ∷ later) ≡ None → (r ≡ None) × (first_refusal later ≡ None)
first_none None later none = (refl, none)
first_none (Some e) later none = cc

pub none_first : {E : Type 0} (r : Option E) (later : List (Option E)) → r ≡ None → first_refusal later ≡ None → first_refusal (r ∷ later) ≡ None
none_first None later first none = none
none_first (Some e) later first none = cc

-- a test that was passed, and one that is
pub passed : {E : Type 0} (b : Bool) (e : E) → (if b then None else Some e) ≡ None → b ≡ true
passed true e none = refl
passed false e none = cc

pub no_cause : {E : Type 0} (b : Bool) (e : E) → b ≡ true → (if b then None else Some e) ≡ None
no_cause true e holds = refl
no_cause false e holds = cc

-- a bound that is not exceeded
pub at_most : {E : Type 0} (bound size : ℕ) (e : E) → (if nat_lt bound size then Some e else None) ≡ None → size ≤ bound
at_most bound size e none = elim (cases_lt bound size) [
  | inl more ↦ absurd (cc (none, ap (λ t. if t then Some e else None) (lt-ltb bound size more)))
  | inr most ↦ most
]
