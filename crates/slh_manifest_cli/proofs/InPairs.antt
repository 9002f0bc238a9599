-- Pairs of a name and its bytes, one after another.
use Rattle.std.proofs.Common.{◌≡◌, ℕ, ◌+◌, ◌*◌, ◌<◌, ◌≤◌, Bool, cond, List, [], ◌∷◌, ◌++◌, length, drop, refl, sym, ◌∙◌, ap, arith, get_or, length-drop, Option, None, Some, Result, Ok, Err, ◌⊎◌, inl, inr, subst, unwrap_or, IfErr, IfSome, OnOk, true, false, length-append, if◌then◌else◌}
use Rattle.std.proofs.lemmas.Bool.{lt-ltb}
use Rattle.std.proofs.lemmas.Cmp.{nat_list_cmp_total, eq_by_cmp_equiv}
use Rattle.std.proofs.lemmas.List.{drop_more}
use Rattle.std.specs.FinMap.{get, insert, get-insert}
use Rattle.line_serve.specs.Causes.{Rose}
use Rattle.slh_core.specs.Refusals.{RefusedOrNoMemory, first_refusal, unless_refused}
use Rattle.slh_manifest.specs.Building.{add_refusal, bytes_refusal, entry_of, name_refusal}
use Rattle.slh_manifest.specs.Files.{Files, bytes_of}
use Rattle.slh_manifest.specs.declared.entry.Entry.{Entry}
use Rattle.slh_manifest.specs.declared.error.BuildError.{BuildError}
use Rattle.slh_manifest.specs.declared.error.BuildError.TheVariants.{Name, Full, TooLarge, Memory}
use Rattle.slh_manifest_cli.specs.Replies.{entries_with, files_with, pair_refusal}

-- the count of a store that never fails doesn't rise
pub quiet : ¬ Rose 0 0
quiet rose = absurd (omega (arith, rose))

-- a name that was put is there
put_there : (files : Files) (name bytes : List ℕ) → bytes_of (insert files name bytes) name ≡ Some bytes
put_there files name bytes =
    get-insert nat_list_cmp_total files name bytes name
    ∙ ap (λ (b : Bool). cond b (Some bytes) (get files name)) ((eq_by_cmp_equiv nat_list_cmp_total).refl name)

pub refusal_is : (files after : Files) (entries : List Entry) (name bytes : List ℕ) → after ≡ insert files name bytes → add_refusal entries name after ≡ pair_refusal entries name bytes
refusal_is files after entries name bytes put =
    ap (λ (o : Option (List ℕ)). first_refusal (name_refusal entries name ∷ bytes_refusal o ∷ []))
    (ap (λ (f : Files). bytes_of f name) put ∙ put_there files name bytes)

-- what adding a pair answers
fits_by : (result : Result (Unit {0}) BuildError) (refusal : Option BuildError) → RefusedOrNoMemory Memory result refusal → OnOk result (refusal ≡ None)
fits_by (Ok x) refusal is = is
fits_by (Err e) refusal is = tt

memory_or : (e : BuildError) (refusal : Option BuildError) → e ≡ unwrap_or refusal Memory → (e ≡ Memory) ⊎ (refusal ≡ Some e)
memory_or e None is = inl is
memory_or e (Some other) is = inr (ap Some (sym is))

refused_by : (result : Result (Unit {0}) BuildError) (refusal : Option BuildError) → RefusedOrNoMemory Memory result refusal → IfErr result (λ e. (e ≡ Memory) ⊎ (refusal ≡ Some e))
refused_by (Ok x) refusal is = tt
refused_by (Err e) refusal is = memory_or e refusal is

module _ (result : Result (Unit {0}) BuildError) (files after : Files) (entries : List Entry) (name bytes : List ℕ) (put : after ≡ insert files name bytes) where
  pub pair_fits : RefusedOrNoMemory Memory result (add_refusal entries name after) → OnOk result (pair_refusal entries name bytes ≡ None)
  pair_fits is = subst (λ (o : Option BuildError). OnOk result (o ≡ None)) (refusal_is files after entries name bytes put) (fits_by result _ is)

  pub pair_refused : RefusedOrNoMemory Memory result (add_refusal entries name after) → IfErr result (λ e. (e ≡ Memory) ⊎ (pair_refusal entries name bytes ≡ Some e))
  pair_refused is = subst (λ (o : Option BuildError). IfErr result (λ e. (e ≡ Memory) ⊎ (o ≡ Some e))) (refusal_is files after entries name bytes put) (refused_by result _ is)

  pub pair_entry : (new : List Entry) → OnOk result (IfSome (bytes_of after name) (λ found. new ≡ entries ++ entry_of name found ∷ [])) → OnOk result (new ≡ entries ++ entry_of name bytes ∷ [])
  pair_entry new is =
      subst (λ (o : Option (List ℕ)). OnOk result (IfSome o (λ found. new ≡ entries ++ entry_of name found ∷ [])))
      (ap (λ (f : Files). bytes_of f name) put ∙ put_there files name bytes) is

-- where there is room, a pair is refused for its name or its length alone
only_by : (follows few long : Bool) (e : BuildError) → few ≡ true
    → first_refusal (first_refusal ((if follows then None else Some Name) ∷ (if few then None else Some Full) ∷ []) ∷ (if long then Some TooLarge else None) ∷ []) ≡ Some e
    → (e ≡ Name) ⊎ (e ≡ TooLarge)
only_by false few long e room is = let same : Name ≡ e = cc is in inl (sym same)
only_by true true true e room is = let same : TooLarge ≡ e = cc is in inr (sym same)
only_by true true false e room is = cc is
only_by true false long e room is = cc room

pair_only : (entries : List Entry) (name bytes : List ℕ) (e : BuildError) → length entries < 4096
    → pair_refusal entries name bytes ≡ Some e → (e ≡ Name) ⊎ (e ≡ TooLarge)
pair_only entries name bytes e room is = only_by _ _ _ e (lt-ltb (length entries) 4096 room) is

abbrev OnlyThese : BuildError → Type 0
OnlyThese e = (e ≡ Name) ⊎ (e ≡ TooLarge)

on_refusal : (refusal : Option BuildError) (rest : Result (List Entry) BuildError) → ((e : BuildError) → refusal ≡ Some e → OnlyThese e)
    → IfErr rest OnlyThese → IfErr (unless_refused refusal rest) OnlyThese
on_refusal None rest only ok = ok
on_refusal (Some e) rest only ok = only e refl

-- so are the pairs of a line, of which there are few enough
pub entries_only : (entries : List Entry) (words : List (List ℕ)) → 2 * length entries + length words ≤ 2 * 4096
    → IfErr (entries_with entries words) (λ e. (e ≡ Name) ⊎ (e ≡ TooLarge))
unfolding entries_with
entries_only entries [] few = tt
entries_only entries (name ∷ []) few = tt
entries_only entries (name ∷ bytes ∷ later) few =
    let more = entries ++ entry_of name bytes ∷ [] in
    let one : length more ≡ length entries + 1 = length-append entries (entry_of name bytes ∷ []) in
    on_refusal (pair_refusal entries name bytes) (entries_with more later) (λ e. pair_only entries name bytes e (omega arith))
    (entries_only more later (omega (arith, one)))

pub only_memory : (all : Result (List Entry) BuildError) (e : BuildError) → IfErr all (λ e. (e ≡ Name) ⊎ (e ≡ TooLarge))
    → (e ≡ Memory) ⊎ (all ≡ Err e) → (e ≡ Name) ⊎ (e ≡ TooLarge) ⊎ (e ≡ Memory)
only_memory all e only (inl none) = inr (inr none)
only_memory (Ok x) e only (inr is) = cc is
only_memory (Err f) e only (inr is) =
    let same : f ≡ e = cc is in
    elim (subst OnlyThese same only) [
      | inl name ↦ inl name
      | inr large ↦ inr (inl large)
    ]

-- pairs give an entry each
passed : (refusal : Option BuildError) (rest : Result (List Entry) BuildError) (all : List Entry) → unless_refused refusal rest ≡ Ok all → rest ≡ Ok all
passed None rest all is = is
passed (Some e) rest all is = cc is

entries_grow : (entries : List Entry) (words : List (List ℕ)) (all : List Entry) → entries_with entries words ≡ Ok all → length entries ≤ length all
unfolding entries_with
entries_grow entries [] all is = let same : entries ≡ all = cc is in omega (arith, ap length same)
entries_grow entries (name ∷ []) all is = let same : entries ≡ all = cc is in omega (arith, ap length same)
entries_grow entries (name ∷ bytes ∷ later) all is =
    let more = entries ++ entry_of name bytes ∷ [] in
    let one : length more ≡ length entries + 1 = length-append entries (entry_of name bytes ∷ []) in
    omega (arith, one, entries_grow more later all (passed (pair_refusal entries name bytes) (entries_with more later) all is))

pub entries_some : (words : List (List ℕ)) (all : List Entry) → 2 ≤ length words → entries_with [] words ≡ Ok all → 1 ≤ length all
unfolding entries_with
entries_some [] all some is = absurd (omega arith)
entries_some (name ∷ []) all some is = absurd (omega arith)
entries_some (name ∷ bytes ∷ later) all some is =
    let one = entry_of name bytes ∷ [] in
    omega (arith, entries_grow one later all (passed (pair_refusal [] name bytes) (entries_with one later) all is))

-- the next two
two_more : (words : List (List ℕ)) (i : ℕ) → 2 * i + 1 < length words
    → drop (2 * i) words ≡ get_or words (2 * i) [] ∷ get_or words (2 * i + 1) [] ∷ drop (2 * (i + 1)) words
two_more words i inside =
    let next : 2 * i + 1 + 1 ≡ 2 * (i + 1) = omega arith in
    drop_more words (2 * i) [] (omega arith)
    ∙ ap (λ (later : List (List ℕ)). get_or words (2 * i) [] ∷ later) (drop_more words (2 * i + 1) [] inside)
    ∙ ap (λ k. get_or words (2 * i) [] ∷ get_or words (2 * i + 1) [] ∷ drop k words) next

pub entries_more : (entries : List Entry) (words : List (List ℕ)) (i : ℕ) → 2 * i + 1 < length words
    → entries_with entries (drop (2 * i) words)
    ≡ unless_refused (pair_refusal entries (get_or words (2 * i) []) (get_or words (2 * i + 1) []))
    (entries_with (entries ++ entry_of (get_or words (2 * i) []) (get_or words (2 * i + 1) []) ∷ []) (drop (2 * (i + 1)) words))
unfolding entries_with
entries_more entries words i inside = ap (entries_with entries) (two_more words i inside)

entries_none : (entries : List Entry) (words : List (List ℕ)) → length words ≤ 1 → entries_with entries words ≡ Ok entries
unfolding entries_with
entries_none entries [] few = refl
entries_none entries (x ∷ []) few = refl
entries_none entries (x ∷ y ∷ words) few = absurd (omega arith)

pub entries_all : (entries : List Entry) (words : List (List ℕ)) (i : ℕ) → length words ≤ 2 * i + 1 → entries_with entries (drop (2 * i) words) ≡ Ok entries
entries_all entries words i past = entries_none entries (drop (2 * i) words) (omega (arith, length-drop (2 * i) words))

pub files_more : (files : Files) (words : List (List ℕ)) (i : ℕ) → 2 * i + 1 < length words
    → files_with files (drop (2 * i) words)
    ≡ files_with (insert files (get_or words (2 * i) []) (get_or words (2 * i + 1) [])) (drop (2 * (i + 1)) words)
unfolding files_with
files_more files words i inside = ap (files_with files) (two_more words i inside)

files_none : (files : Files) (words : List (List ℕ)) → length words ≤ 1 → files_with files words ≡ files
unfolding files_with
files_none files [] few = refl
files_none files (x ∷ []) few = refl
files_none files (x ∷ y ∷ words) few = absurd (omega arith)

pub files_all : (files : Files) (words : List (List ℕ)) (i : ℕ) → length words ≤ 2 * i + 1 → files_with files (drop (2 * i) words) ≡ files
files_all files words i past = files_none files (drop (2 * i) words) (omega (arith, length-drop (2 * i) words))

-- a turn of the loops
module _ (words : List (List ℕ)) (i : ℕ) (name bytes : List ℕ) (inside : 2 * i + 1 < length words) (name_is : name ≡ get_or words (2 * i) []) (bytes_is : bytes ≡ get_or words (2 * i + 1) []) where
  entries_next : (entries : List Entry) → entries_with entries (drop (2 * i) words)
      ≡ unless_refused (pair_refusal entries name bytes) (entries_with (entries ++ entry_of name bytes ∷ []) (drop (2 * (i + 1)) words))
  entries_next entries = rw (name_is, bytes_is) (entries_more entries words i inside)

  pub entries_step : (all : Result (List Entry) BuildError) (entries new : List Entry) → all ≡ entries_with entries (drop (2 * i) words) → pair_refusal entries name bytes ≡ None → new ≡ entries ++ entry_of name bytes ∷ []
      → all ≡ entries_with new (drop (2 * (i + 1)) words)
  entries_step all entries new so_far fits added =
      so_far ∙ entries_next entries
      ∙ ap (λ (o : Option BuildError). unless_refused o (entries_with (entries ++ entry_of name bytes ∷ []) (drop (2 * (i + 1)) words))) fits
      ∙ ap (λ (es : List Entry). entries_with es (drop (2 * (i + 1)) words)) (sym added)

  pub entries_end : (all : Result (List Entry) BuildError) (entries : List Entry) (e : BuildError) → all ≡ entries_with entries (drop (2 * i) words)
      → (e ≡ Memory) ⊎ (pair_refusal entries name bytes ≡ Some e) → (e ≡ Memory) ⊎ (all ≡ Err e)
  entries_end all entries e so_far (inl is) = inl is
  entries_end all entries e so_far (inr is) =
      inr (so_far ∙ entries_next entries
      ∙ ap (λ (o : Option BuildError). unless_refused o (entries_with (entries ++ entry_of name bytes ∷ []) (drop (2 * (i + 1)) words))) is)

  pub files_step : (all files after : Files) → all ≡ files_with files (drop (2 * i) words) → after ≡ insert files name bytes → all ≡ files_with after (drop (2 * (i + 1)) words)
  files_step all files after so_far put =
      so_far ∙ files_more files words i inside
      ∙ ap (λ (n : List ℕ). files_with (insert files n (get_or words (2 * i + 1) [])) (drop (2 * (i + 1)) words)) (sym name_is)
      ∙ ap (λ (b : List ℕ). files_with (insert files name b) (drop (2 * (i + 1)) words)) (sym bytes_is)
      ∙ ap (λ (f : Files). files_with f (drop (2 * (i + 1)) words)) (sym put)
