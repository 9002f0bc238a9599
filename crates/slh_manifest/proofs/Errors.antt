-- What the entries of a manifest are answered, one after another.
use Rattle.std.proofs.Common.{◌≡◌, ℕ, ◌+◌, List, [], ◌∷◌, refl, ◌∙◌, ap, Option, None, Some, ◌⊎◌, inl, inr, true, false, if◌then◌else◌}
use Rattle.std.specs.Option.{option_map}
use Rattle.slh_core.specs.Refusals.{first_refusal}
use Rattle.slh_manifest.specs.Checking.{bytes_error, entries_error}
use Rattle.slh_manifest.specs.Entries.{entry_refusal, is_of, numbered}
use Rattle.slh_manifest.specs.Files.{Files, bytes_of}
use Rattle.slh_manifest.specs.declared.entry.Entry.{Entry}
use Rattle.slh_manifest.specs.declared.error.CheckError.{CheckError}
use Rattle.slh_manifest.specs.declared.error.CheckError.TheVariants.{Differs as DiffersAt, Fault}
use Rattle.slh_manifest.specs.declared.error.EntryError.{EntryError}
use Rattle.slh_manifest.specs.declared.error.EntryError.TheVariants.{Differs, Fault as ReadFailed}

pub first_of_one : {E : Type 0} (refusal : Option E) → first_refusal (refusal ∷ []) ≡ refusal
first_of_one None = refl
first_of_one (Some e) = refl

-- where none of several stands, neither the first nor a later one does
pub first_none : {E : Type 0} (refusal : Option E) (later : List (Option E)) → first_refusal (refusal ∷ later) ≡ None
    → (refusal ≡ None) × (first_refusal later ≡ None)
first_none None later none = (refl, none)
first_none (Some e) later none = cc

-- an entry by itself is answered what the entry of its number is
pub numbered_is : (i : ℕ) (entry : Entry) (told : Option (List ℕ)) → bytes_error i entry.len entry.digest told ≡ option_map (numbered i) (entry_refusal entry told)
numbered_is i entry None = refl
numbered_is i entry (Some bytes) =
    elim (is_of entry bytes) as (λ b. (if b then None else Some (DiffersAt i)) ≡ option_map (numbered i) (if b then None else Some Differs)) [
      | true ↦ refl
      | false ↦ refl
    ]

-- the entry is right, so the later ones decide
pub entry_right : (files : Files) (i : ℕ) (entry : Entry) (left entries : List Entry) → left ≡ entry ∷ entries → entry_refusal entry (bytes_of files entry.name) ≡ None
    → entries_error files i left ≡ entries_error files (i + 1) entries
entry_right files i entry left entries are right =
    let none : bytes_error i entry.len entry.digest (bytes_of files entry.name) ≡ None = numbered_is i entry (bytes_of files entry.name) ∙ ap (option_map (numbered i)) right in
    ap (entries_error files i) are ∙ ap (λ o. first_refusal (o ∷ entries_error files (i + 1) entries ∷ [])) none ∙ first_of_one (entries_error files (i + 1) entries)

-- or it isn't, which is what the entries are answered
pub entry_wrong : (files : Files) (i : ℕ) (entry : Entry) (left entries : List Entry) (e : EntryError) (whole : Option CheckError) → left ≡ entry ∷ entries → whole ≡ entries_error files i left
    → (e ≡ ReadFailed) ⊎ (entry_refusal entry (bytes_of files entry.name) ≡ Some e) → (numbered i e ≡ Fault) ⊎ (whole ≡ Some (numbered i e))
entry_wrong files i entry left entries e whole are so_far (inl fault) = inl (ap (numbered i) fault)
entry_wrong files i entry left entries e whole are so_far (inr wrong) =
    let some : bytes_error i entry.len entry.digest (bytes_of files entry.name) ≡ Some (numbered i e) = numbered_is i entry (bytes_of files entry.name) ∙ ap (option_map (numbered i)) wrong in
    inr (so_far ∙ ap (entries_error files i) are ∙ ap (λ o. first_refusal (o ∷ entries_error files (i + 1) entries ∷ [])) some)
