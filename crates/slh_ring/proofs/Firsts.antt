-- Which entry is the first whose 8 bytes aren't those of its key.
use Rattle.std.proofs.Common.{◌≡◌, ◌≢◌, ℕ, suc, ◌+◌, List, [], ◌∷◌, ◌++◌, length, Bool, true, false, Option, None, Some, Err, Result, if◌then◌else◌, refl, sym, ◌∙◌, ap, arith}
use Rattle.std.specs.List.{AllByRecursion}
use Rattle.std.specs.Str.{bytes_eq}
use Rattle.std.proofs.lemmas.Slice.Eq.{bytes_eq-Decides}
use Rattle.slh_core.specs.Parameters.{Scheme}
use Rattle.slh_ring.proofs.Scans.{false_from}
use Rattle.slh_ring.specs.Keys.{key_tag}
use Rattle.slh_ring.specs.Records.{Entry, has_form, paths_of, recorded}
use Rattle.slh_ring.specs.Restores.{HasOwnTag, IsFirstOther, first_mismatch, matching, restore_answer}
use Rattle.slh_ring.specs.declared.error.RestoreError.{RestoreError}
use Rattle.slh_ring.specs.declared.error.RestoreError.TheVariants.{Form, Mismatch}

module _ (Z : Scheme) (name master : List ℕ) where
  -- the same where entries are numbered from k on
  record IsOtherFrom (k i : ℕ) (entries : List Entry) : Type 0 where
    before : List Entry
    entry : Entry
    later : List Entry
    entries_are : entries ≡ before ++ entry ∷ later
    number : k + length before ≡ i
    each_before : AllByRecursion (HasOwnTag Z name master) before
    other : entry.tag ≢ key_tag Z name master entry.path

  later_other : (k i : ℕ) (e : Entry) (es : List Entry) → HasOwnTag Z name master e → IsOtherFrom (suc k) i es → IsOtherFrom k i (e ∷ es)
  later_other k i e es own found = record {
    before = e ∷ found.before;
    entry = found.entry;
    later = found.later;
    entries_are = ap (λ l. e ∷ l) found.entries_are;
    number = omega (arith, found.number);
    each_before = (own, found.each_before);
    other = found.other;
  }

  other_case : (k i : ℕ) (e : Entry) (es : List Entry) (own : Bool) → bytes_eq e.tag (key_tag Z name master e.path) ≡ own
      → (first_mismatch Z name master (suc k) es ≡ Some i → IsOtherFrom (suc k) i es)
      → (if own then first_mismatch Z name master (suc k) es else Some k) ≡ Some i → IsOtherFrom k i (e ∷ es)
  other_case k i e es true own later is = later_other k i e es ((bytes_eq-Decides _ _).0 own) (later is)
  other_case k i e es false own later is =
      let number : k ≡ i = cc in
      record {
        before = [];
        entry = e;
        later = es;
        entries_are = refl;
        number = omega (arith, number);
        each_before = tt;
        other = λ same. let wrong : true ≡ false = sym ((bytes_eq-Decides _ _).1 same) ∙ own in cc wrong;
      }

  other_found : (k i : ℕ) (entries : List Entry) → first_mismatch Z name master k entries ≡ Some i → IsOtherFrom k i entries
  other_found k i [] is = absurd (cc is)
  other_found k i (e ∷ es) is = other_case k i e es (bytes_eq e.tag (key_tag Z name master e.path)) refl (other_found (suc k) i es) is

  -- what stands first is found
  other_is : (k : ℕ) (before : List Entry) (entry : Entry) (later : List Entry) → AllByRecursion (HasOwnTag Z name master) before → entry.tag ≢ key_tag Z name master entry.path
      → first_mismatch Z name master k (before ++ entry ∷ later) ≡ Some (k + length before)
  other_is k [] entry later own other =
      let differs : bytes_eq entry.tag (key_tag Z name master entry.path) ≡ false = false_from _ (λ same. absurd (other ((bytes_eq-Decides _ _).0 same))) in
      let here : k ≡ k + 0 = omega arith in
      rw differs (ap Some here)
  other_is k (e ∷ es) entry later own other =
      let same : bytes_eq e.tag (key_tag Z name master e.path) ≡ true = (bytes_eq-Decides _ _).1 own.0 in
      let place : suc k + length es ≡ k + suc (length es) = omega arith in
      rw same (other_is (suc k) es entry later own.1 other ∙ ap Some place)

  from_matching : (m : Option ℕ) (ps : List (List ℕ)) (i : ℕ) → matching m ps ≡ Err (Mismatch i) → m ≡ Some i
  from_matching None ps i is = absurd (cc is)
  from_matching (Some k) ps i is = cc

  from_form : (b : Bool) (answer : Result (List (List ℕ)) RestoreError) (i : ℕ) → (if b then answer else Err Form) ≡ Err (Mismatch i) → answer ≡ Err (Mismatch i)
  from_form true answer i is = is
  from_form false answer i is = absurd (cc is)

  pub first_named : (bytes : List ℕ) (i : ℕ) → restore_answer Z name master bytes ≡ Err (Mismatch i) → IsFirstOther Z name master i (recorded name bytes)
  first_named bytes i is =
      let entries = recorded name bytes in
      let answer = from_form (has_form name bytes) (matching (first_mismatch Z name master 0 entries) (paths_of entries)) i is in
      let found = other_found 0 i entries (from_matching (first_mismatch Z name master 0 entries) (paths_of entries) i answer) in
      record {
        before = found.before;
        entry = found.entry;
        later = found.later;
        entries_are = found.entries_are;
        number = omega (arith, found.number);
        each_before = found.each_before;
        other = found.other;
      }

  pub named_first : (bytes : List ℕ) (i : ℕ) → has_form name bytes ≡ true → IsFirstOther Z name master i (recorded name bytes) → restore_answer Z name master bytes ≡ Err (Mismatch i)
  named_first bytes i form first =
      let entries = recorded name bytes in
      let number : 0 + length first.before ≡ i = omega (arith, first.number) in
      let found : first_mismatch Z name master 0 entries ≡ Some i =
      ap (first_mismatch Z name master 0) first.entries_are ∙ other_is 0 first.before first.entry first.later first.each_before first.other ∙ ap Some number in
      ap (λ b. if b then matching (first_mismatch Z name master 0 entries) (paths_of entries) else Err Form) form
      ∙ ap (λ m. matching m (paths_of entries)) found
