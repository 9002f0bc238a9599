-- What the error of a check says of an entry.
use Rattle.std.proofs.Common.{◌≡◌, ◌≢◌, ℕ, ◌<◌, List, [], ◌∷◌, ◌++◌, length, refl, sym, ◌∙◌, ap, subst, inl, inr, Option, Some, Result, Ok, Err, IsErrOf, IfErr, IsSomeAnd}
use Rattle.std.specs.Prelude.{slice_get}
use Rattle.slh_core.specs.Refusals.{RefusedExactly}
use Rattle.slh_manifest.specs.Checking.{HasOther, IsFirst, LacksEntry, NamesEntry, RefusedOrFault, SpeaksOf, entries_error}
use Rattle.slh_manifest.specs.Entries.{numbered}
use Rattle.slh_manifest.specs.Files.{Files}
use Rattle.slh_manifest.specs.declared.entry.Entry.{Entry}
use Rattle.slh_manifest.specs.declared.error.CheckError.{CheckError}
use Rattle.slh_manifest.specs.declared.error.CheckError.TheVariants.{Form, Invalid, Missing, Differs, Fault}
use Rattle.slh_manifest.specs.declared.error.EntryError.{EntryError}
use Rattle.slh_manifest.specs.declared.error.EntryError.TheVariants.{Missing as Lacks, Differs as HasOthers, Fault as ReadFailed}
use Rattle.slh_manifest.proofs.Named.{differs_first, missing_first}

pub numbered_named : (entries : List Entry) (i : ℕ) (e : EntryError) → i < length entries → NamesEntry entries (numbered i e)
numbered_named entries i Lacks lt = lt
numbered_named entries i HasOthers lt = lt
numbered_named entries i ReadFailed lt = tt

pub numbered_only : (i : ℕ) (e : EntryError) → (numbered i e ≢ Form) × (numbered i e ≢ Invalid)
numbered_only i Lacks = (λ no. cc no, λ no. cc no)
numbered_only i HasOthers = (λ no. cc no, λ no. cc no)
numbered_only i ReadFailed = (λ no. cc no, λ no. cc no)

pub numbered_fault : (i : ℕ) (e : EntryError) → numbered i e ≡ Fault → e ≡ ReadFailed
numbered_fault i Lacks is = absurd (cc is)
numbered_fault i HasOthers is = absurd (cc is)
numbered_fault i ReadFailed is = refl

-- where no read failed the answer is exact
pub exact_of : {Risen : Type 0} (result : Result (Unit {0}) CheckError) (refusal : Option CheckError) → RefusedOrFault result refusal → (IsErrOf result Fault → Risen) → ¬ Risen
    → RefusedExactly result refusal
exact_of (Ok x) refusal told fault not = told
exact_of (Err e) refusal (inl is) fault not = absurd (not (fault (ap Err is)))
exact_of (Err e) refusal (inr is) fault not = is

-- the entry after some others is that of their number
got_after : (before later : List Entry) (entry : Entry) → slice_get (before ++ entry ∷ later) (length before) ≡ Some entry
got_after [] later entry = refl
got_after (e ∷ before) later entry = got_after before later entry

first_is : (files : Files) (Is : Files → Entry → Type 0) (i : ℕ) (entries : List Entry) → IsFirst files Is i entries → IsSomeAnd (slice_get entries i) (Is files)
first_is files Is i entries first =
    let got : slice_get entries i ≡ Some first.entry = ap (λ (es : List Entry). slice_get es i) first.entries_are
    ∙ ap (slice_get (first.before ++ first.entry ∷ first.later)) (sym first.number) ∙ got_after first.before first.later first.entry in
    subst (λ (o : Option Entry). IsSomeAnd o (Is files)) (sym got) first.is

speaks_of : (files : Files) (entries : List Entry) (e : CheckError) → entries_error files 0 entries ≡ Some e → SpeaksOf files entries e
speaks_of files entries Form is = tt
speaks_of files entries Invalid is = tt
speaks_of files entries (Missing i) is = first_is files LacksEntry i entries (missing_first files entries i is)
speaks_of files entries (Differs i) is = first_is files HasOther i entries (differs_first files entries i is)
speaks_of files entries Fault is = tt

pub speaks : (files : Files) (entries : List Entry) (result : Result (Unit {0}) CheckError) → RefusedOrFault result (entries_error files 0 entries) → IfErr result (SpeaksOf files entries)
speaks files entries (Ok x) told = tt
speaks files entries (Err e) (inl fault) = subst (SpeaksOf files entries) (sym fault) tt
speaks files entries (Err e) (inr is) = speaks_of files entries e is
