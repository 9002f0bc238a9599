-- What is answered of manifests under the bytes of keys. Z is the scheme.
use Rattle.std.specs.Prelude.{◌≡◌, ◌↔◌, ℕ, ◌*◌, ◌==◌, Bool, List, [], ◌∷◌, length, find, is_some}
use Rattle.std.specs.Prelude.{slice_get, Option, None, Some, Result, if◌then◌else◌}
use Rattle.std.specs.Prelude.{IsErrOf, IfErr, IfSome}
use Rattle.std.specs.Str.{bytes_eq}
use Rattle.line_serve.specs.Causes.{Rose}
use Rattle.slh_core.specs.Parameters.{Scheme}
use Rattle.slh_core.specs.Refusals.{RefusedExactly}
use Rattle.slh_manifest.specs.Building.{seal_refusal}
use Rattle.slh_manifest.specs.Checking.{NamesEntry, RefusedOrFault, check_error, entries_of}
use Rattle.slh_manifest.specs.Checking.{has_entries, manifest_refusal}
use Rattle.slh_manifest.specs.Files.{Files}
use Rattle.slh_manifest.specs.declared.entry.Entry.{Entry}
use Rattle.slh_manifest.specs.declared.error.BuildError.{BuildError}
use Rattle.slh_manifest.specs.declared.error.BuildError.TheVariants.{Memory}
use Rattle.slh_manifest.specs.declared.error.CheckError.{CheckError}
use Rattle.slh_manifest.specs.declared.error.CheckError.TheVariants.{Form, Invalid, Missing}
use Rattle.slh_manifest.specs.declared.error.CheckError.TheVariants.{Differs, Fault}

-- why no manifest is made by the bytes of a signing key, which callers have read as one of the set
abbrev pub sealing_refusal : Scheme → List ℕ → List Entry → Option (List ℕ) → Option BuildError
sealing_refusal Z key entries opt_rand =
    if length key == 4 * Z.n then seal_refusal Z entries opt_rand else Some Memory

-- why a manifest isn't read; under bytes that are no key of the set none has the form
abbrev pub opening_refusal : Scheme → List ℕ → List ℕ → Option CheckError
opening_refusal Z key manifest =
    if length key == 2 * Z.n then manifest_refusal Z key manifest else Some Form

-- why a manifest isn't accepted over a store with these files
abbrev pub checking_refusal : Scheme → List ℕ → List ℕ → Files → Option CheckError
checking_refusal Z key manifest files =
    if length key == 2 * Z.n then check_error Z key manifest files else Some Form

-- a manifest was checked by the bytes of a key over a store, of whose files it may tell, and whose
-- faults are counted before and after
pub record IsChecked {T : Type 0} (Z : Scheme) (key manifest : List ℕ) (store : Option Files)
    (before after : ℕ) (answer : Result T CheckError) : Type 0 where
  pub form : IsErrOf answer Form ↔ (opening_refusal Z key manifest ≡ Some Form)
  pub invalid : IsErrOf answer Invalid ↔ (opening_refusal Z key manifest ≡ Some Invalid)
  pub fault : IsErrOf answer Fault → Rose before after
  pub named : IfErr answer (NamesEntry (entries_of manifest))
  pub told : IfSome store (λ files. RefusedOrFault answer (checking_refusal Z key manifest files))
  pub exact : IfSome store (λ files. ¬ Rose before after
      → RefusedExactly answer (checking_refusal Z key manifest files))

-- an entry of a manifest that was read, by its number
abbrev pub entry_at : List ℕ → ℕ → Option Entry
entry_at manifest i = if has_entries manifest then slice_get (entries_of manifest) i else None

-- the name of the entry that a refusal speaks of, if it speaks of one
abbrev pub name_or_none : Option Entry → List ℕ
name_or_none None = []
name_or_none (Some entry) = entry.name

abbrev pub spoken_name : List ℕ → CheckError → List ℕ
spoken_name manifest (Missing i) = name_or_none (entry_at manifest i)
spoken_name manifest (Differs i) = name_or_none (entry_at manifest i)
spoken_name manifest error = []

-- whether entries have a name
abbrev pub is_named : List Entry → List ℕ → Bool
is_named entries name = is_some (find (λ entry. bytes_eq entry.name name) entries)

-- the first of some names that entries haven't
abbrev pub first_unnamed : List Entry → List (List ℕ) → Option (List ℕ)
first_unnamed entries [] = None
first_unnamed entries (name ∷ later) =
    if is_named entries name then first_unnamed entries later else Some name

abbrev pub unnamed_in : List ℕ → List (List ℕ) → Option (List ℕ)
unnamed_in manifest names =
    if has_entries manifest then first_unnamed (entries_of manifest) names else None
