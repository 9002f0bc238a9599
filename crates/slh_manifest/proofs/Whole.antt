-- What a manifest as a whole is answered.
use Rattle.std.proofs.Common.{◌≡◌, ◌↔◌, ℕ, Bool, true, false, List, [], ◌∷◌, length, drop, ◌==◌, refl, sym, ◌∙◌, ap, subst, Option, None, Some, Result, Ok, Err, if◌then◌else◌, IsErrOf, is_some, ◌⊎◌, inl, inr, IfSome, ◌≤◌, nat_le}
use Rattle.slh_core.specs.Parameters.{Scheme}
use Rattle.slh_trees.specs.Checking.{signature_size}
use Rattle.slh_core.specs.Refusals.{RefusedExactly, first_refusal}
use Rattle.slh_dsa.specs.Calls.{is_valid}
use Rattle.slh_frames.specs.declared.frame.Mode.TheVariants.{Pure}
use Rattle.slh_manifest.specs.Checking.{NamesEntry, RefusedOrFault, SpeaksOf, SpeaksOfEntries, body_part, check_error, count_of, entries_error, entries_of, has_count, is_manifest, manifest_refusal, signature_part, signature_refusal}
use Rattle.slh_manifest.specs.Entries.{AreRead}
use Rattle.slh_manifest.specs.Files.{Files}
use Rattle.slh_manifest.specs.Manifest.{manifest_context}
use Rattle.slh_manifest.specs.Reading.{are_entries, entries_in}
use Rattle.slh_manifest.specs.declared.entry.Entry.{Entry}
use Rattle.slh_manifest.specs.declared.error.CheckError.{CheckError}
use Rattle.slh_manifest.specs.declared.error.CheckError.TheVariants.{Form, Invalid, Missing, Differs, Fault}
use Rattle.slh_manifest.proofs.Errors.{first_of_one}
use Rattle.slh_manifest.proofs.Fronts.{three_first, three_last, three_second}
use Rattle.slh_manifest.proofs.Lists.{true_le}
use Rattle.slh_manifest.proofs.Tellings.{exact_of}

-- what a manifest of right form is answered by its signature, which is looked at by its parts
module _ (Z : Scheme) (key manifest body sig : List ℕ) (form : true ≡ is_manifest Z manifest) (body_is : body ≡ body_part manifest) (sig_is : sig ≡ signature_part manifest) where
  abbrev verified : Bool
  verified = is_valid Z Pure key manifest_context body sig

  manifest_refusal-is : manifest_refusal Z key manifest ≡ (if verified then None else Some Invalid)
  manifest_refusal-is =
      ap (λ (b : Bool). first_refusal ((if b then None else Some Form) ∷ signature_refusal Z key manifest ∷ [])) (sym form)
      ∙ first_of_one (signature_refusal Z key manifest)
      ∙ ap (λ (b : List ℕ). if is_valid Z Pure key manifest_context b (signature_part manifest) then None else Some Invalid) (sym body_is)
      ∙ ap (λ (s : List ℕ). if is_valid Z Pure key manifest_context body s then None else Some Invalid) (sym sig_is)

  pub refused_by_signature : (signed : Bool) → signed ≡ verified → signed ≡ false → manifest_refusal Z key manifest ≡ Some Invalid
  refused_by_signature signed is unsigned = manifest_refusal-is ∙ ap (λ (b : Bool). if b then None else Some Invalid) (sym is ∙ unsigned)

  pub not_refused : (signed : Bool) → signed ≡ verified → signed ≡ true → manifest_refusal Z key manifest ≡ None
  not_refused signed is valid = manifest_refusal-is ∙ ap (λ (b : Bool). if b then None else Some Invalid) (sym is ∙ valid)

-- where the manifest is refused the files don't matter
pub check_refused : (Z : Scheme) (key manifest : List ℕ) (e : CheckError) → manifest_refusal Z key manifest ≡ Some e → (files : Files) → check_error Z key manifest files ≡ Some e
check_refused Z key manifest e is files = ap (λ (o : Option CheckError). first_refusal (o ∷ entries_error files 0 (entries_of manifest) ∷ [])) is

-- and else the entries decide
pub check_entries_decide : (Z : Scheme) (key manifest : List ℕ) → manifest_refusal Z key manifest ≡ None → (files : Files) → check_error Z key manifest files ≡ entries_error files 0 (entries_of manifest)
check_entries_decide Z key manifest is files =
    ap (λ (o : Option CheckError). first_refusal (o ∷ entries_error files 0 (entries_of manifest) ∷ [])) is ∙ first_of_one _

pub decided_by_entries : (Z : Scheme) (key manifest : List ℕ) (result : Result (Unit {0}) CheckError) (entries : List Entry) → manifest_refusal Z key manifest ≡ None → entries ≡ entries_of manifest → (files : Files)
    → RefusedOrFault result (entries_error files 0 entries) → RefusedOrFault result (check_error Z key manifest files)
decided_by_entries Z key manifest result entries none are files told =
    subst (RefusedOrFault result) (ap (entries_error files 0) are ∙ sym (check_entries_decide Z key manifest none files)) told

-- a refusal that there isn't
pub never_invalid : (result : Result (Unit {0}) CheckError) (refusal : Option CheckError) → refusal ≡ None → SpeaksOfEntries result → IsErrOf result Invalid ↔ (refusal ≡ Some Invalid)
never_invalid (Ok x) refusal none only = (λ h. absurd (cc h), λ h. absurd (cc (none, h)))
never_invalid (Err e) refusal none only = (λ h. absurd (only.1 (cc h)), λ h. absurd (cc (none, h)))

pub never_form : (result : Result (Unit {0}) CheckError) (refusal : Option CheckError) → refusal ≡ None → SpeaksOfEntries result → IsErrOf result Form ↔ (refusal ≡ Some Form)
never_form (Ok x) refusal none only = (λ h. absurd (cc h), λ h. absurd (cc (none, h)))
never_form (Err e) refusal none only = (λ h. absurd (only.0 (cc h)), λ h. absurd (cc (none, h)))

pub none_unread : {P : Type 0} (refusal : Option CheckError) → refusal ≡ None → is_some refusal ≡ true → P
none_unread refusal none some = absurd (let h : false ≡ true = sym (ap is_some none) ∙ some in cc)

pub refused_exactly : (told : Option Files) (Risen : Type 0) (Z : Scheme) (key manifest : List ℕ) (e : CheckError) → manifest_refusal Z key manifest ≡ Some e
    → IfSome told (λ files. ¬ Risen → RefusedExactly {T = Unit {0}} (Err e) (check_error Z key manifest files))
refused_exactly None Risen Z key manifest e is = tt
refused_exactly (Some files) Risen Z key manifest e is = λ not. check_refused Z key manifest e is files

pub decided_exactly : {Risen : Type 0} (told : Option Files) (Z : Scheme) (key manifest : List ℕ) (result : Result (Unit {0}) CheckError) (entries : List Entry) → manifest_refusal Z key manifest ≡ None → entries ≡ entries_of manifest
    → IfSome told (λ files. RefusedOrFault result (entries_error files 0 entries)) → (IsErrOf result Fault → Risen)
    → IfSome told (λ files. ¬ Risen → RefusedExactly result (check_error Z key manifest files))
decided_exactly None Z key manifest result entries none are told fault = tt
decided_exactly (Some files) Z key manifest result entries none are told fault = λ not. exact_of result _ (decided_by_entries Z key manifest result entries none are files told) fault not

-- the entries where they stand
pub entries_stand : (Z : Scheme) (manifest : List ℕ) (count : ℕ) (entries : List ℕ) → true ≡ is_manifest Z manifest → count ≡ count_of manifest → entries ≡ drop 4 manifest → are_entries count [] entries ≡ true
entries_stand Z manifest count entries form count_is entries_are =
    rw (count_is, entries_are) (three_second (has_count manifest) (are_entries (count_of manifest) [] (drop 4 manifest)) (length (signature_part manifest) == signature_size Z) (sym form))

pub entries_are_of : (manifest : List ℕ) (count : ℕ) (entries : List ℕ) → count ≡ count_of manifest → entries ≡ drop 4 manifest → entries_in count entries ≡ entries_of manifest
entries_are_of manifest count entries count_is entries_are = rw (count_is, entries_are) refl

pub are_read : (Z : Scheme) (manifest : List ℕ) (count : ℕ) (entries : List ℕ) → true ≡ is_manifest Z manifest → count ≡ count_of manifest → entries ≡ drop 4 manifest → AreRead count entries
are_read Z manifest count entries form count_is entries_are =
    let n = count_of manifest in
    let counted : has_count manifest ≡ true = three_first (has_count manifest) (are_entries n [] (drop 4 manifest)) (length (signature_part manifest) == signature_size Z) (sym form) in
    record {
      some = subst (λ k. 1 ≤ k) (sym count_is) (true_le _ _ (three_second (nat_le 4 (length manifest)) (nat_le 1 n) (nat_le n 4096) counted));
      few = subst (λ k. k ≤ 4096) (sym count_is) (true_le _ _ (three_last (nat_le 4 (length manifest)) (nat_le 1 n) (nat_le n 4096) counted));
      are = entries_stand Z manifest count entries form count_is entries_are;
    }

-- a manifest is refused for its form or its signature
refused_either : (form signed : Bool) (e : CheckError) → first_refusal ((if form then None else Some Form) ∷ (if signed then None else Some Invalid) ∷ []) ≡ Some e → (e ≡ Form) ⊎ (e ≡ Invalid)
refused_either true true e is = absurd (cc is)
refused_either true false e is = inr (cc is)
refused_either false signed e is = inl (cc is)

pub refused_by_itself : (Z : Scheme) (key manifest : List ℕ) (e : CheckError) → manifest_refusal Z key manifest ≡ Some e → (e ≡ Form) ⊎ (e ≡ Invalid)
refused_by_itself Z key manifest e is =
    refused_either (is_manifest Z manifest) (is_valid Z Pure key manifest_context (body_part manifest) (signature_part manifest)) e is

-- and its answer is that refusal
pub refused_as : (refusal : Option CheckError) (e x : CheckError) → refusal ≡ Some e → IsErrOf {T = Unit {0}} (Err e) x ↔ (refusal ≡ Some x)
refused_as refusal e x is = (λ h. is ∙ ap Some (cc h), λ h. (let same : Some e ≡ Some x = sym is ∙ h in cc same))

pub names_none : (entries : List Entry) (e : CheckError) → (e ≡ Form) ⊎ (e ≡ Invalid) → NamesEntry entries e
names_none entries Form is = tt
names_none entries Invalid is = tt
names_none entries (Missing i) (inl is) = absurd (cc is)
names_none entries (Missing i) (inr is) = absurd (cc is)
names_none entries (Differs i) (inl is) = absurd (cc is)
names_none entries (Differs i) (inr is) = absurd (cc is)
names_none entries Fault is = tt

pub speaks_of_none : (files : Files) (entries : List Entry) (e : CheckError) → (e ≡ Form) ⊎ (e ≡ Invalid) → SpeaksOf files entries e
speaks_of_none files entries Form is = tt
speaks_of_none files entries Invalid is = tt
speaks_of_none files entries (Missing i) (inl is) = absurd (cc is)
speaks_of_none files entries (Missing i) (inr is) = absurd (cc is)
speaks_of_none files entries (Differs i) (inl is) = absurd (cc is)
speaks_of_none files entries (Differs i) (inr is) = absurd (cc is)
speaks_of_none files entries Fault is = tt

pub no_fault : {P : Type 0} (e : CheckError) → (e ≡ Form) ⊎ (e ≡ Invalid) → IsErrOf {T = Unit {0}} (Err e) Fault → P
no_fault Form is h = absurd (cc h)
no_fault Invalid is h = absurd (cc h)
no_fault (Missing i) is h = absurd (cc h)
no_fault (Differs i) is h = absurd (cc h)
no_fault Fault (inl is) h = absurd (cc is)
no_fault Fault (inr is) h = absurd (cc is)
