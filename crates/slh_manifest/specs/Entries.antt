-- Entries where they stand, and what is answered where one is checked.
use Rattle.std.specs.Prelude.{◌≡◌, ◌≤◌, ◌==◌, ◌&&◌, ◌⊎◌, ℕ, List, [], length, Bool, true}
use Rattle.std.specs.Prelude.{if◌then◌else◌, Option, None, Some, Result, MatchResult}
use Rattle.std.specs.Str.{bytes_eq}
use Rattle.sha256_lanes.specs.Sha256.{sha256}
use Rattle.slh_manifest.specs.Reading.{are_entries}
use Rattle.slh_manifest.specs.declared.entry.Entry.{Entry}
use Rattle.slh_manifest.specs.declared.entry_ref.EntryRef.{EntryRef}
use Rattle.slh_manifest.specs.declared.error.CheckError.{CheckError}
use Rattle.slh_manifest.specs.declared.error.CheckError.TheVariants.{Missing as MissingAt}
use Rattle.slh_manifest.specs.declared.error.CheckError.TheVariants.{Differs as DiffersAt}
use Rattle.slh_manifest.specs.declared.error.CheckError.TheVariants.{Fault as FaultOfCheck}
use Rattle.slh_manifest.specs.declared.error.EntryError.{EntryError}
use Rattle.slh_manifest.specs.declared.error.EntryError.TheVariants.{Missing, Differs, Fault}

-- so many entries stand at the front of bytes, one after another, the first after some name
pub record Stand (count : ℕ) (bytes : List ℕ) : Type 0 where
  pub last : List ℕ
  pub are : are_entries count last bytes ≡ true

-- those of a manifest
pub record AreRead (count : ℕ) (bytes : List ℕ) : Type 0 where
  pub some : 1 ≤ count
  pub few : count ≤ 4096
  pub are : are_entries count [] bytes ≡ true

-- an entry by itself
abbrev pub entry_copied : EntryRef → Entry
entry_copied entry =
    record { name = entry.name.now; len = entry.len; digest = entry.digest.now }

-- whether bytes are those of an entry
abbrev pub is_of : Entry → List ℕ → Bool
is_of entry bytes = length bytes == entry.len && bytes_eq (sha256 bytes) entry.digest

-- why an entry isn't right where the store has these bytes, if it has the name
abbrev pub entry_refusal : Entry → Option (List ℕ) → Option EntryError
entry_refusal entry None = Some Missing
entry_refusal entry (Some bytes) = if is_of entry bytes then None else Some Differs

-- the same of the entry of this number, as a check of a manifest tells it
abbrev pub numbered : ℕ → EntryError → CheckError
numbered i Missing = MissingAt i
numbered i Differs = DiffersAt i
numbered i Fault = FaultOfCheck

-- the call is refused for exactly this cause, or by an error that may come besides
abbrev pub RefusedOr : {T E : Type 0} → E → Result T E → Option E → Type 0
RefusedOr besides result refusal = MatchResult result (λ _. refusal ≡ None)
    (λ e. (e ≡ besides) ⊎ (refusal ≡ Some e))
