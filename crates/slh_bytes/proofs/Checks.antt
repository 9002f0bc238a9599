-- A manifest that is checked by the bytes of a key.
use Rattle.std.proofs.Common.{◌≡◌, ◌↔◌, ℕ, Bool, true, false, List, refl, sym, subst, Option, None, Some, Result, Err, if◌then◌else◌, IsErrOf, IfErr, IfSome, inr, arith}
use Rattle.line_serve.specs.Causes.{Rose}
use Rattle.slh_core.specs.Parameters.{Scheme}
use Rattle.slh_core.specs.Refusals.{RefusedExactly}
use Rattle.slh_dsa.specs.Calls.{verifying_key_refusal}
use Rattle.slh_dsa.specs.declared.error.Error.{Error}
use Rattle.slh_dsa.specs.declared.error.Error.TheVariants.{Length}
use Rattle.slh_manifest.specs.Checking.{NamesEntry, RefusedOrFault, check_error, entries_of, manifest_refusal}
use Rattle.slh_manifest.specs.Files.{Files}
use Rattle.slh_manifest.specs.declared.error.CheckError.{CheckError}
use Rattle.slh_manifest.specs.declared.error.CheckError.TheVariants.{Form, Invalid, Fault}
use Rattle.slh_manifest.proofs.Measures.{told_all, told_then}
use Rattle.slh_manifest.proofs.Whole.{refused_as}
use Rattle.slh_bytes.specs.Manifests.{IsChecked}

form_by : (fits : Bool) (e : Error) (refusal : Option CheckError)
    → (if fits then None else Some Length) ≡ Some e → (if fits then refusal else Some Form) ≡ Some Form
form_by true e refusal is = grind arith
form_by false e refusal is = refl

own_by : (fits : Bool) (refusal : Option CheckError)
    → (if fits then None else Some Length) ≡ None → (if fits then refusal else Some Form) ≡ refusal
own_by true refusal is = refl
own_by false refusal is = grind arith

-- bytes that are no key of the set
pub checked_by_none : (Z : Scheme) (key manifest : List ℕ) (store : Option Files) (before after : ℕ) (e : Error)
    → verifying_key_refusal Z key ≡ Some e → IsChecked {T = Unit {0}} Z key manifest store before after (Err Form)
checked_by_none Z key manifest store before after e is = record {
  form = refused_as _ Form Form (form_by _ e (manifest_refusal Z key manifest) is);
  invalid = refused_as _ Form Invalid (form_by _ e (manifest_refusal Z key manifest) is);
  fault = λ other. grind arith;
  named = tt;
  told = told_all store _ (λ files. inr (form_by _ e (check_error Z key manifest files) is));
  exact = told_all store _ (λ files. λ not. form_by _ e (check_error Z key manifest files) is);
}

-- bytes that are one
pub checked_by_one : (Z : Scheme) (key manifest : List ℕ) (store : Option Files) (before after : ℕ) (answer : Result (Unit {0}) CheckError)
    → verifying_key_refusal Z key ≡ None
    → IsErrOf answer Form ↔ (manifest_refusal Z key manifest ≡ Some Form)
    → IsErrOf answer Invalid ↔ (manifest_refusal Z key manifest ≡ Some Invalid)
    → (IsErrOf answer Fault → Rose before after)
    → IfErr answer (NamesEntry (entries_of manifest))
    → IfSome store (λ files. RefusedOrFault answer (check_error Z key manifest files))
    → IfSome store (λ files. ¬ Rose before after → RefusedExactly answer (check_error Z key manifest files))
    → IsChecked Z key manifest store before after answer
checked_by_one Z key manifest store before after answer is form invalid fault named told exact = record {
  form = subst (λ (o : Option CheckError). IsErrOf answer Form ↔ (o ≡ Some Form)) (sym (own_by _ (manifest_refusal Z key manifest) is)) form;
  invalid = subst (λ (o : Option CheckError). IsErrOf answer Invalid ↔ (o ≡ Some Invalid)) (sym (own_by _ (manifest_refusal Z key manifest) is)) invalid;
  fault = fault;
  named = named;
  told = told_then store _ _ (λ files given. subst (λ (o : Option CheckError). RefusedOrFault answer o) (sym (own_by _ (check_error Z key manifest files) is)) given) told;
  exact = told_then store _ _ (λ files given. λ not. subst (λ (o : Option CheckError). RefusedExactly answer o) (sym (own_by _ (check_error Z key manifest files) is)) (given not)) exact;
}
