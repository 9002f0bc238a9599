-- What opening a manifest answers where it isn't refused, and where the names of entries stand that are
-- found.
use Rattle.std.proofs.Common.{◌≡◌, ◌+◌, ℕ, suc, ◌*◌, ◌==◌, Bool, true, false, List, [], ◌∷◌, length, Option, None, Some, Result, Ok, Err, refl, sym, ap, subst, ◌∙◌, arith, inl, inr, if◌then◌else◌}
use Rattle.std.specs.List.{slice_get}
use Rattle.std.specs.Prelude.{IfOk, IfSome, MatchOption}
use Rattle.std.specs.Str.{bytes_eq}
use Rattle.std.proofs.lemmas.Bool.{cases_Bool}
use Rattle.std.proofs.lemmas.Slice.Eq.{bytes_eq-Decides}
use Rattle.slh_core.specs.Parameters.{Scheme}
use Rattle.slh_dsa.specs.Calls.{is_valid}
use Rattle.slh_frames.specs.declared.frame.Mode.TheVariants.{Pure}
use Rattle.slh_sets.specs.Sets.{scheme_for}
use Rattle.slh_sets.specs.declared.set.Set.{Set}
use Rattle.slh_trees.specs.Checking.{signature_size}
use Rattle.slh_core.specs.Refusals.{first_refusal}
use Rattle.slh_manifest.specs.Checking.{body_part, entries_of, has_entries, is_manifest, manifest_refusal, signature_part}
use Rattle.slh_manifest.specs.Manifest.{manifest_context}
use Rattle.slh_manifest.specs.declared.entry.Entry.{Entry}
use Rattle.slh_manifest.specs.declared.error.CheckError.{CheckError}
use Rattle.slh_manifest.specs.declared.error.CheckError.TheVariants.{Form, Invalid, Missing, Differs, Fault}
use Rattle.slh_manifest.proofs.Fronts.{first_true}
use Rattle.slh_dsa_c.specs.Manifests.{NameStands, count_or_number, entry_answer, entry_numbered, entry_or_number, entry_place, find_answer, number_from, number_named, open_answer}
use Rattle.slh_dsa_c.specs.Status.{status_of}
use Rattle.slh_dsa_c.specs.declared.manifests.CEntry.{CEntry}
use Rattle.slh_dsa_c.proofs.Entries.{name_stands}

-- a manifest that isn't refused has the form
opened_by : (form signed : Bool) (manifest : List ℕ) (count : ℕ)
    → count_or_number manifest (first_refusal ((if form then None else Some Form) ∷ (if signed then None else Some Invalid) ∷ [])) ≡ Ok count
    → (count ≡ length (entries_of manifest)) × (form ≡ true)
opened_by true true manifest count is = (cc is, refl)
opened_by true false manifest count is = absurd (cc is)
opened_by false signed manifest count is = absurd (cc is)

opened : (Z : Scheme) (key manifest : List ℕ) (count : ℕ) → count_or_number manifest (manifest_refusal Z key manifest) ≡ Ok count
    → (count ≡ length (entries_of manifest)) × (has_entries manifest ≡ true)
opened Z key manifest count is =
    let both = opened_by (is_manifest Z manifest) (is_valid Z Pure key manifest_context (body_part manifest) (signature_part manifest)) manifest count is in
    (both.0, first_true (has_entries manifest) (length (signature_part manifest) == signature_size Z) both.1)

of_length : (fits : Bool) (answer : Result ℕ ℕ) (count : ℕ) → (if fits then answer else Err 5) ≡ Ok count → answer ≡ Ok count
of_length true answer count is = is
of_length false answer count is = absurd (cc is)

pub opened_in : (found : Option Set) (key manifest : List ℕ) (count : ℕ) → MatchOption found (◌≡◌ {A = Result ℕ ℕ} (Ok count) (Err 9)) (λ set. Ok count ≡ open_answer (scheme_for set) key manifest)
    → (count ≡ length (entries_of manifest)) × (has_entries manifest ≡ true)
opened_in None key manifest count told = absurd (cc told)
opened_in (Some set) key manifest count told =
    let Z = scheme_for set in
    opened Z key manifest count (of_length (length key == 2 * Z.n) (count_or_number manifest (manifest_refusal Z key manifest)) count (sym told))

-- no refusal has the number 0
refused_by : (manifest : List ℕ) (refusal : Option CheckError) → count_or_number manifest refusal ≡ Err 0 → ⊥
refused_by manifest None is = cc is
refused_by manifest (Some Form) is = cc is
refused_by manifest (Some Invalid) is = cc is
refused_by manifest (Some (Missing i)) is = cc is
refused_by manifest (Some (Differs i)) is = cc is
refused_by manifest (Some Fault) is = cc is

refused_or_length : (fits : Bool) (manifest : List ℕ) (refusal : Option CheckError) → (if fits then count_or_number manifest refusal else Err 5) ≡ Err 0 → ⊥
refused_or_length true manifest refusal is = refused_by manifest refusal is
refused_or_length false manifest refusal is = cc is

pub never_zero : (found : Option Set) (key manifest : List ℕ) (number : ℕ) → MatchOption found (◌≡◌ {A = Result ℕ ℕ} (Err number) (Err 9)) (λ set. Err number ≡ open_answer (scheme_for set) key manifest)
    → number ≡ 0 → ⊥
never_zero None key manifest number told zero = cc (told, zero)
never_zero (Some set) key manifest number told zero =
    let Z = scheme_for set in
    refused_or_length (length key == 2 * Z.n) manifest (manifest_refusal Z key manifest) (sym told ∙ ap (λ n. Err n) zero)

-- the name of an entry that goes out
named_by : (manifest : List ℕ) (i : ℕ) (out : CEntry) (has : Bool) (found : Option Entry) → has_entries manifest ≡ has → slice_get (entries_of manifest) i ≡ found
    → IfOk (if has then entry_or_number (entry_place manifest i + 1) found else Err 14) (λ e. out ≡ e)
    → status_of (if has then entry_or_number (entry_place manifest i + 1) found else Err 14) ≡ 0
    → IfSome found (λ e. NameStands manifest out e.name)
named_by manifest i out true None has is told zero = tt
named_by manifest i out true (Some e) has is told zero = subst (λ (x : CEntry). NameStands manifest x e.name) (sym told) (name_stands manifest i e has is)
named_by manifest i out false found has is told zero = absurd (omega (arith, zero))

pub name_of_number : (manifest : List ℕ) (i : ℕ) (out : CEntry) (answer : Result CEntry ℕ) → answer ≡ entry_answer manifest i → IfOk answer (λ e. out ≡ e)
    → status_of answer ≡ 0 → IfSome (slice_get (entries_of manifest) i) (λ e. NameStands manifest out e.name)
name_of_number manifest i out answer is told zero =
    named_by manifest i out (has_entries manifest) (slice_get (entries_of manifest) i) refl refl
    (subst (λ (a : Result CEntry ℕ). IfOk a (λ e. out ≡ e)) is told) (ap status_of (sym is) ∙ zero)

-- an entry that is found by its name has it
pub record HasName (name : List ℕ) (i k : ℕ) (entries : List Entry) : Type 0 where
  pub entry : Entry
  pub place : ℕ
  pub number : k ≡ i + place
  pub there : slice_get entries place ≡ Some entry
  pub name_is : entry.name ≡ name

number_is : (name : List ℕ) (i : ℕ) (entries : List Entry) (k : ℕ) → number_from name i entries ≡ Some k → HasName name i k entries
number_is name i [] k is = absurd (cc is)
number_is name i (x ∷ xs) k is = elim (cases_Bool (bytes_eq x.name name)) [
  | inl same ↦ (let first : Some i ≡ Some k = rw same at is in record {
    entry = x;
    place = 0;
    number = (let h : i ≡ k = cc first in omega (arith, h));
    there = refl;
    name_is = (bytes_eq-Decides x.name name).0 same;
  })
  | inr other ↦ (let later : number_from name (i + 1) xs ≡ Some k = rw other at is in let h = number_is name (i + 1) xs k later in record {
    entry = h.entry;
    place = suc h.place;
    number = omega (arith, h.number);
    there = h.there;
    name_is = h.name_is;
  })
]

-- the answer to a number that a name has
found_by : (manifest name : List ℕ) (out : CEntry) (number : Option ℕ) → number_named manifest name ≡ number
    → IfOk (entry_numbered manifest number) (λ e. out ≡ e) → status_of (entry_numbered manifest number) ≡ 0 → NameStands manifest out name
found_by manifest name out None is told zero = absurd (omega (arith, zero))
found_by manifest name out (Some k) is told zero =
    let h = number_is name 0 (entries_of manifest) k is in
    let place : h.place ≡ k = omega (arith, h.number) in
    let there : slice_get (entries_of manifest) k ≡ Some h.entry = ap (slice_get (entries_of manifest)) (sym place) ∙ h.there in
    let stands : IfSome (Some h.entry) (λ e. NameStands manifest out e.name) = subst (λ (o : Option Entry). IfSome o (λ e. NameStands manifest out e.name)) there (name_of_number manifest k out (entry_answer manifest k) refl told zero) in
    subst (λ (n : List ℕ). NameStands manifest out n) h.name_is stands

by_name : (manifest name : List ℕ) (out : CEntry) (has : Bool) → IfOk (if has then entry_numbered manifest (number_named manifest name) else Err 14) (λ e. out ≡ e)
    → status_of (if has then entry_numbered manifest (number_named manifest name) else Err 14) ≡ 0 → NameStands manifest out name
by_name manifest name out true told zero = found_by manifest name out (number_named manifest name) refl told zero
by_name manifest name out false told zero = absurd (omega (arith, zero))

pub name_of_name : (manifest name : List ℕ) (out : CEntry) (answer : Result CEntry ℕ) → answer ≡ find_answer manifest name → IfOk answer (λ e. out ≡ e)
    → status_of answer ≡ 0 → NameStands manifest out name
name_of_name manifest name out answer is told zero =
    by_name manifest name out (has_entries manifest) (subst (λ (a : Result CEntry ℕ). IfOk a (λ e. out ≡ e)) is told) (ap status_of (sym is) ∙ zero)
