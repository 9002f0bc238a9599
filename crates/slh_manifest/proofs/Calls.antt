-- What calls of `add` make, by what they answered.
use Rattle.std.proofs.Common.{◌≡◌, ℕ, List, [], ◌∷◌, ◌++◌, map, Option, None, Some, Result, Ok, Err, OnOk, OnErr, IfSome, IsSomeAnd, refl, sym, ◌∙◌, ap, subst, append_assoc, append-nil}
use Rattle.std.proofs.lemmas.List.{map-append}
use Rattle.std.specs.List.{AllByRecursion}
use Rattle.slh_core.specs.Refusals.{first_refusal}
use Rattle.slh_manifest.specs.Building.{AreCalls, Call, RefusedOrFault, add_refusal, bytes_refusal, entry_of, if_ok, name_refusal, ok_names}
use Rattle.slh_manifest.specs.Checking.{HasEntry}
use Rattle.slh_manifest.specs.Files.{Files, bytes_of}
use Rattle.slh_manifest.specs.declared.entry.Entry.{Entry}
use Rattle.slh_manifest.specs.declared.error.BuildError.{BuildError}
use Rattle.slh_manifest.proofs.Errors.{first_none, first_of_one}

abbrev names_of : List Entry → List (List ℕ)
names_of entries = map (λ (e : Entry). e.name) entries

each_push : (files : Files) (entries : List Entry) (entry : Entry) → AllByRecursion (HasEntry files) entries → HasEntry files entry → AllByRecursion (HasEntry files) (entries ++ entry ∷ [])
each_push files [] entry each has = (has, tt)
each_push files (e ∷ es) entry each has = (each.0, each_push files es entry each.1 has)

-- what one call makes
record IsStep (files : Files) (old : List Entry) (name : List ℕ) (result : Result (Unit {0}) BuildError) (next : List Entry) : Type 0 where
  names : names_of next ≡ names_of old ++ if_ok result name []
  each : AllByRecursion (HasEntry files) old → AllByRecursion (HasEntry files) next

step_ok : (files : Files) (old next : List Entry) (name : List ℕ) (told : Option (List ℕ)) → bytes_of files name ≡ told
    → first_refusal (name_refusal old name ∷ bytes_refusal told ∷ []) ≡ None → IfSome told (λ bytes. next ≡ old ++ entry_of name bytes ∷ [])
    → IsStep files old name (Ok tt) next
step_ok files old next name None was none put =
    let missing = sym (first_of_one (bytes_refusal None)) ∙ (first_none (name_refusal old name) (bytes_refusal None ∷ []) none).1 in
    absurd (cc missing)
step_ok files old next name (Some bytes) was none put =
    let entry = entry_of name bytes in
    let has : HasEntry files entry = subst (λ (o : Option (List ℕ)). IsSomeAnd o (λ b. entry ≡ entry_of name b)) (sym was) refl in
    record {
      names = ap names_of put ∙ map-append (λ (e : Entry). e.name) old (entry ∷ []);
      each = λ all. subst (AllByRecursion (HasEntry files)) (sym put) (each_push files old entry all has);
    }

step : (files : Files) (old next : List Entry) (name : List ℕ) (result : Result (Unit {0}) BuildError) → RefusedOrFault result (add_refusal old name files)
    → OnOk result (IfSome (bytes_of files name) (λ bytes. next ≡ old ++ entry_of name bytes ∷ [])) → OnErr result (next ≡ old) → IsStep files old name result next
step files old next name (Ok answer) told entry same = step_ok files old next name (bytes_of files name) refl told entry
step files old next name (Err error) told entry same =
    record { names = ap names_of same ∙ sym (append-nil (names_of old)); each = λ all. subst (AllByRecursion (HasEntry files)) (sym same) all }

if_ok_then : (result : Result (Unit {0}) BuildError) (name : List ℕ) (later : List (List ℕ)) → if_ok result name [] ++ later ≡ if_ok result name later
if_ok_then (Ok answer) name later = refl
if_ok_then (Err error) name later = refl

module _ (files : Files) where
  names_made : (calls : List Call) (old new : List Entry) → AreCalls files old calls new → names_of new ≡ names_of old ++ ok_names calls
  names_made [] old new are = ap names_of are ∙ sym (append-nil (names_of old))
  names_made (call ∷ later) old new are =
      let is = are.1.0 in
      let one = step files old are.0 call.name call.result is.told is.entry is.same in
      names_made later are.0 new are.1.1
      ∙ ap (λ (ns : List (List ℕ)). ns ++ ok_names later) one.names
      ∙ append_assoc (names_of old) (if_ok call.result call.name []) (ok_names later)
      ∙ ap (λ (ns : List (List ℕ)). names_of old ++ ns) (if_ok_then call.result call.name (ok_names later))

  each_made : (calls : List Call) (old new : List Entry) → AllByRecursion (HasEntry files) old → AreCalls files old calls new → AllByRecursion (HasEntry files) new
  each_made [] old new all are = subst (AllByRecursion (HasEntry files)) (sym are) all
  each_made (call ∷ later) old new all are =
      let is = are.1.0 in
      let one = step files old are.0 call.name call.result is.told is.entry is.same in
      each_made later are.0 new (one.each all) are.1.1

  pub made_names : (calls : List Call) (new : List Entry) → AreCalls files [] calls new → names_of new ≡ ok_names calls
  made_names calls new are = names_made calls [] new are

  pub made_entries : (calls : List Call) (new : List Entry) → AreCalls files [] calls new → AllByRecursion (HasEntry files) new
  made_entries calls new are = each_made calls [] new tt are
