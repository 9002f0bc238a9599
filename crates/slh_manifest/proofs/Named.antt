-- Which entry is named where one is refused.
use Rattle.std.proofs.Common.{◌≡◌, ◌≢◌, ℕ, ◌+◌, true, false, ◌==◌, List, [], ◌∷◌, ◌++◌, length, refl, sym, ◌∙◌, ap, arith, subst, Option, None, Some, ◌⊎◌, inl, inr, IsSomeAnd, if◌then◌else◌}
use Rattle.std.proofs.lemmas.Bool.Decides.{Decides-eqb}
use Rattle.std.proofs.lemmas.Slice.Eq.{bytes_eq-Decides}
use Rattle.std.specs.List.{AllByRecursion}
use Rattle.std.specs.Str.{bytes_eq}
use Rattle.sha256_lanes.specs.Sha256.{sha256}
use Rattle.slh_core.specs.Refusals.{first_refusal}
use Rattle.slh_manifest.specs.Building.{entry_of}
use Rattle.slh_manifest.specs.Checking.{HasEntry, HasOther, IsFirst, LacksEntry, bytes_error, entries_error}
use Rattle.slh_manifest.specs.Entries.{is_of}
use Rattle.slh_manifest.specs.Files.{Files, bytes_of}
use Rattle.slh_manifest.specs.declared.entry.Entry.{Entry}
use Rattle.slh_manifest.specs.declared.error.CheckError.{CheckError}
use Rattle.slh_manifest.specs.declared.error.CheckError.TheVariants.{Differs, Missing}
use Rattle.slh_manifest.proofs.Errors.{first_of_one}
use Rattle.slh_manifest.proofs.Fronts.{first_true, second_true}

of_same : (entry : Entry) (bytes : List ℕ) → is_of entry bytes ≡ true → entry ≡ entry_of entry.name bytes
of_same entry bytes same =
    let len : entry.len ≡ length bytes = sym ((Decides-eqb (length bytes) entry.len).0 (first_true _ _ same)) in
    let digest : entry.digest ≡ sha256 bytes = sym ((bytes_eq-Decides (sha256 bytes) entry.digest).0 (second_true _ _ same)) in
    ap (λ (l : ℕ). record { name = entry.name; len = l; digest = entry.digest }) len
    ∙ ap (λ (d : List ℕ). record { name = entry.name; len = length bytes; digest = d }) digest

same_of : (entry : Entry) (bytes : List ℕ) → entry ≡ entry_of entry.name bytes → is_of entry bytes ≡ true
same_of entry bytes is =
    let len : (length bytes == entry.len) ≡ true = (Decides-eqb (length bytes) entry.len).1 (sym (ap (λ e. e.len) is)) in
    let digest : bytes_eq (sha256 bytes) entry.digest ≡ true = (bytes_eq-Decides (sha256 bytes) entry.digest).1 (sym (ap (λ e. e.digest) is)) in
    rw (len, digest) refl

-- what an entry is answered, by what the store has under its name
has_by : (i : ℕ) (entry : Entry) (told : Option (List ℕ)) → bytes_error i entry.len entry.digest told ≡ None → IsSomeAnd told (λ bytes. entry ≡ entry_of entry.name bytes)
has_by i entry None is = absurd (cc is)
has_by i entry (Some bytes) is =
    elim (is_of entry bytes) as (λ b. is_of entry bytes ≡ b → (if b then None else Some (Differs i)) ≡ None → entry ≡ entry_of entry.name bytes) [
      | true ↦ λ same none. of_same entry bytes same
      | false ↦ λ other none. absurd (cc none)
    ] refl is

lacks_by : (i k : ℕ) (entry : Entry) (told : Option (List ℕ)) → bytes_error i entry.len entry.digest told ≡ Some (Missing k) → (told ≡ None) × (i ≡ k)
lacks_by i k entry None is = (refl, cc is)
lacks_by i k entry (Some bytes) is =
    elim (is_of entry bytes) as (λ b. (if b then None else Some (Differs i)) ≡ Some (Missing k) → (Some bytes ≡ None) × (i ≡ k)) [
      | true ↦ λ no. absurd (cc no)
      | false ↦ λ no. absurd (cc no)
    ] is

other_by : (i k : ℕ) (entry : Entry) (told : Option (List ℕ)) → bytes_error i entry.len entry.digest told ≡ Some (Differs k)
    → IsSomeAnd told (λ bytes. entry ≢ entry_of entry.name bytes) × (i ≡ k)
other_by i k entry None is = absurd (cc is)
other_by i k entry (Some bytes) is =
    elim (is_of entry bytes) as (λ b. is_of entry bytes ≡ b → (if b then None else Some (Differs i)) ≡ Some (Differs k) → (entry ≢ entry_of entry.name bytes) × (i ≡ k)) [
      | true ↦ λ same no. absurd (cc no)
      | false ↦ λ other yes. ((λ is. let wrong : true ≡ false = sym (same_of entry bytes is) ∙ other in cc wrong), cc yes)
    ] refl is

either_by : (i : ℕ) (entry : Entry) (told : Option (List ℕ)) (e : CheckError) → bytes_error i entry.len entry.digest told ≡ Some e → (e ≡ Missing i) ⊎ (e ≡ Differs i)
either_by i entry None e is = inl (cc is)
either_by i entry (Some bytes) e is =
    elim (is_of entry bytes) as (λ b. (if b then None else Some (Differs i)) ≡ Some e → (e ≡ Missing i) ⊎ (e ≡ Differs i)) [
      | true ↦ λ no. absurd (cc no)
      | false ↦ λ yes. inr (cc yes)
    ] is

-- the first that is refused
pub record IsRefused (files : Files) (i : ℕ) (entries : List Entry) (e : CheckError) : Type 0 where
  pub before : List Entry
  pub entry : Entry
  pub later : List Entry
  pub entries_are : entries ≡ before ++ entry ∷ later
  pub each_before : AllByRecursion (HasEntry files) before
  pub error : bytes_error (i + length before) entry.len entry.digest (bytes_of files entry.name) ≡ Some e

refused_later : (files : Files) (i : ℕ) (entry : Entry) (entries : List Entry) (e : CheckError) → HasEntry files entry → IsRefused files (i + 1) entries e → IsRefused files i (entry ∷ entries) e
refused_later files i entry entries e has found =
    let place : i + 1 + length found.before ≡ i + length (entry ∷ found.before) = omega arith in
    record {
      before = entry ∷ found.before;
      entry = found.entry;
      later = found.later;
      entries_are = ap (λ (es : List Entry). entry ∷ es) found.entries_are;
      each_before = (has, found.each_before);
      error = subst (λ n. bytes_error n found.entry.len found.entry.digest (bytes_of files found.entry.name) ≡ Some e) place found.error;
    }

pub refused_is : (files : Files) (i : ℕ) (entries : List Entry) (e : CheckError) → entries_error files i entries ≡ Some e → IsRefused files i entries e
refused_is files i [] e is = absurd (cc is)
refused_is files i (entry ∷ entries) e is =
    let own = bytes_error i entry.len entry.digest (bytes_of files entry.name) in
    elim own as (λ o. own ≡ o → first_refusal (o ∷ entries_error files (i + 1) entries ∷ []) ≡ Some e → IsRefused files i (entry ∷ entries) e) [
      | None ↦ λ none later. refused_later files i entry entries e (has_by i entry (bytes_of files entry.name) none)
          (refused_is files (i + 1) entries e (sym (first_of_one (entries_error files (i + 1) entries)) ∙ later))
      | Some other ↦ λ some first.
          let place : i ≡ i + length {A = Entry} [] = omega arith in
          record {
            before = [];
            entry = entry;
            later = entries;
            entries_are = refl;
            each_before = tt;
            error = subst (λ n. bytes_error n entry.len entry.digest (bytes_of files entry.name) ≡ Some e) place (some ∙ first);
          }
    ] refl is

pub each_right : (files : Files) (i : ℕ) (entries : List Entry) → entries_error files i entries ≡ None → AllByRecursion (HasEntry files) entries
each_right files i [] is = tt
each_right files i (entry ∷ entries) is =
    let own = bytes_error i entry.len entry.digest (bytes_of files entry.name) in
    elim own as (λ o. own ≡ o → first_refusal (o ∷ entries_error files (i + 1) entries ∷ []) ≡ None → AllByRecursion (HasEntry files) (entry ∷ entries)) [
      | None ↦ λ none later. (has_by i entry (bytes_of files entry.name) none, each_right files (i + 1) entries (sym (first_of_one (entries_error files (i + 1) entries)) ∙ later))
      | Some other ↦ λ some no. absurd (cc no)
    ] refl is

pub missing_first : (files : Files) (entries : List Entry) (k : ℕ) → entries_error files 0 entries ≡ Some (Missing k) → IsFirst files LacksEntry k entries
missing_first files entries k is =
    let found = refused_is files 0 entries (Missing k) is in
    let both = lacks_by (0 + length found.before) k found.entry (bytes_of files found.entry.name) found.error in
    record {
      before = found.before;
      entry = found.entry;
      later = found.later;
      entries_are = found.entries_are;
      number = omega (arith, both.1);
      each_before = found.each_before;
      is = both.0;
    }

pub differs_first : (files : Files) (entries : List Entry) (k : ℕ) → entries_error files 0 entries ≡ Some (Differs k) → IsFirst files HasOther k entries
differs_first files entries k is =
    let found = refused_is files 0 entries (Differs k) is in
    let both = other_by (0 + length found.before) k found.entry (bytes_of files found.entry.name) found.error in
    record {
      before = found.before;
      entry = found.entry;
      later = found.later;
      entries_are = found.entries_are;
      number = omega (arith, both.1);
      each_before = found.each_before;
      is = both.0;
    }

pub one_of_both : (files : Files) (entries : List Entry) (e : CheckError) → entries_error files 0 entries ≡ Some e → (i : ℕ) × ((e ≡ Missing i) ⊎ (e ≡ Differs i))
one_of_both files entries e is =
    let found = refused_is files 0 entries e is in
    (0 + length found.before, either_by (0 + length found.before) found.entry (bytes_of files found.entry.name) e found.error)
