-- The first form of base64 that a text has.
use Rattle.std.proofs.Common.{◌≡◌, ℕ, List, Option, Some, None, Result, Ok, Err, Vec, Global, option_map, refl, sym, ap, ◌∙◌, subst}
use Rattle.std.specs.Prelude.{IfOk, IfErr}
use Rattle.std.specs.Result.{result_ok}
use Rattle.std.specs.declared.alloc.AllocError.{AllocError}
use Rattle.base64.specs.Engines.{standard, standard_no_pad, url_safe, url_safe_no_pad}
use Rattle.base64.specs.GeneralPurpose.{IsDecodeFailure, decode_of, decoded_of}
use Rattle.base64.specs.declared.decode.DecodeAllocError.{DecodeAllocError}
use Rattle.base64.specs.declared.decode.DecodeAllocError.TheVariants.{DecodeError, OutOfMemory}
use Rattle.base64.specs.declared.engine.general_purpose.GeneralPurpose.{GeneralPurpose}
use Rattle.dsse.specs.Forms.{IsFound}
use Rattle.dsse.specs.Reading.{decoded}

pub first_form : (text x : List ℕ) → decoded_of standard text ≡ Some x → decoded text ≡ Some x
unfolding decoded
first_form text x is = rw is refl

pub second_form : (text x : List ℕ) → decoded_of standard text ≡ None → decoded_of standard_no_pad text ≡ Some x → decoded text ≡ Some x
unfolding decoded
second_form text x a is = rw (a, is) refl

pub third_form : (text x : List ℕ) → decoded_of standard text ≡ None → decoded_of standard_no_pad text ≡ None → decoded_of url_safe text ≡ Some x → decoded text ≡ Some x
unfolding decoded
third_form text x a b is = rw (a, b, is) refl

pub last_form : (text : List ℕ) → decoded_of standard text ≡ None → decoded_of standard_no_pad text ≡ None → decoded_of url_safe text ≡ None
    → decoded text ≡ decoded_of url_safe_no_pad text
unfolding decoded
last_form text a b c = rw (a, b, c) refl

-- what a call of `decode` and `found` tells of an engine
by_engine : (e : GeneralPurpose) (s : List ℕ) (d : Result (Vec ℕ Global) DecodeAllocError) (o : Option (Vec ℕ Global)) → IfOk d (λ v. decode_of e s ≡ Ok v.items)
    → IfErr d (λ f. IsDecodeFailure e s f) → IsFound d (Ok o) → option_map (λ b. b.items) o ≡ decoded_of e s
unfolding decoded_of
by_engine e s (Ok v) o ok err is =
    let same : o ≡ Some v = cc is in
    ap (option_map (λ b. b.items)) same ∙ sym (ap result_ok ok)
by_engine e s (Err (DecodeError f)) o ok err is =
    let same : o ≡ None = cc is in
    ap (option_map (λ b. b.items)) same ∙ sym (ap result_ok err)
by_engine e s (Err OutOfMemory) o ok err is = cc is

abbrev pub Tells : GeneralPurpose → List ℕ → Option (Vec ℕ Global) → Type 0
Tells e s o = option_map (λ b. b.items) o ≡ decoded_of e s

pub tells : (e : GeneralPurpose) (s t : List ℕ) (d : Result (Vec ℕ Global) DecodeAllocError) (r : Result (Option (Vec ℕ Global)) AllocError) (o : Option (Vec ℕ Global))
    → s ≡ t → IfOk d (λ v. decode_of e s ≡ Ok v.items) → IfErr d (λ f. IsDecodeFailure e s f) → IsFound d r → r ≡ Ok o → Tells e t o
tells e s t d r o same ok err is was = subst (λ x. Tells e x o) same (by_engine e s d o ok err (subst (IsFound d) was is))

pub found : {o : Option (Vec ℕ Global)} {v : Vec ℕ Global} {r : Option (List ℕ)} → option_map (λ b. b.items) o ≡ r → o ≡ Some v → r ≡ Some v.items
found e is = sym e ∙ ap (option_map (λ b. b.items)) is

empty : (o : Option (Vec ℕ Global)) → ((v : Vec ℕ Global) → o ≡ Some v → ⊥) → option_map (λ b. b.items) o ≡ None
empty None not = refl
empty (Some v) not = absurd (not v refl)

pub nothing : {o : Option (Vec ℕ Global)} {r : Option (List ℕ)} → option_map (λ b. b.items) o ≡ r → ((v : Vec ℕ Global) → o ≡ Some v → ⊥) → r ≡ None
nothing {o} e not = sym e ∙ empty o not
