-- Whether a second pass made the R of the first one.
use Rattle.std.proofs.Common.{◌≡◌, ◌≢◌, ℕ, List, [], ◌∷◌, Bool, true, false, Option, None, Some, if◌then◌else◌}
use Rattle.std.proofs.lemmas.Slice.Eq.{bytes_eq-Decides}
use Rattle.std.specs.Bool.{◌==◌}
use Rattle.std.specs.Str.{bytes_eq}
use Rattle.slh_stream.specs.declared.pass_error.PassError.{PassError}
use Rattle.slh_stream.specs.declared.pass_error.PassError.TheVariants.{Length, Changed}
use Rattle.slh_core.proofs.Refusals.{first_none, passed}
use Rattle.slh_core.specs.Refusals.{first_refusal, length_refusal}

pub same_rand : (size : Option PassError) (a b : List ℕ)
    → first_refusal (size ∷ (if bytes_eq a b then None else Some Changed) ∷ []) ≡ None → a ≡ b
same_rand size a b none =
    let last = (first_none (if bytes_eq a b then None else Some Changed) [] (first_none size _ none).1).0 in
    (bytes_eq-Decides a b).0 (passed (bytes_eq a b) Changed last)

never_long : (fits : Bool) → first_refusal ((if fits then None else Some Length) ∷ None ∷ []) ≡ Some Changed → ⊥
never_long true is = cc
never_long false is = cc

pub other_rand : (wanted len : ℕ) (a b : List ℕ)
    → first_refusal (length_refusal Length wanted len ∷ (if bytes_eq a b then None else Some Changed) ∷ []) ≡ Some Changed → a ≢ b
other_rand wanted len a b changed same = never_long (len == wanted) (rw ((bytes_eq-Decides a b).1 same) at changed)
