-- What is answered where a manifest is checked. Z is the scheme, key a verifying key.
use Rattle.std.specs.Prelude.{◌≡◌, ◌≢◌, ◌==◌, ◌+◌, ◌-◌, ◌&&◌, ◌⊎◌, ℕ, List, [], ◌∷◌, ◌++◌, length}
use Rattle.std.specs.Prelude.{◌<◌, ⊤, slice_get}
use Rattle.std.specs.Prelude.{take, drop, Bool, nat_le, if◌then◌else◌, Option, None, Some, Result}
use Rattle.std.specs.Prelude.{MatchResult, IfErr, IsSomeAnd}
use Rattle.std.specs.Int.{w32, from_be_bytes}
use Rattle.std.specs.List.{AllByRecursion}
use Rattle.std.specs.Str.{bytes_eq}
use Rattle.sha256_lanes.specs.Sha256.{sha256}
use Rattle.slh_core.specs.Parameters.{Scheme}
use Rattle.slh_trees.specs.Checking.{signature_size}
use Rattle.slh_core.specs.Refusals.{first_refusal}
use Rattle.slh_dsa.specs.Calls.{is_valid}
use Rattle.slh_frames.specs.declared.frame.Mode.TheVariants.{Pure}
use Rattle.slh_manifest.specs.Building.{entry_of}
use Rattle.slh_manifest.specs.Files.{Files, bytes_of}
use Rattle.slh_manifest.specs.Manifest.{manifest_context}
use Rattle.slh_manifest.specs.Reading.{are_entries, entries_in, rest_after}
use Rattle.slh_manifest.specs.declared.entry.Entry.{Entry}
use Rattle.slh_manifest.specs.declared.error.CheckError.{CheckError}
use Rattle.slh_manifest.specs.declared.error.CheckError.TheVariants.{Form, Invalid, Missing}
use Rattle.slh_manifest.specs.declared.error.CheckError.TheVariants.{Differs, Fault}

-- the parts of a manifest, by their places: the number of entries, which its first four bytes are,
-- the entries, the signature, and the body, which is what stands before the signature
abbrev pub count_of : List ℕ → ℕ
count_of manifest = from_be_bytes w32 manifest

abbrev pub entries_of : List ℕ → List Entry
entries_of manifest = entries_in (count_of manifest) (drop 4 manifest)

abbrev pub signature_part : List ℕ → List ℕ
signature_part manifest = rest_after (count_of manifest) (drop 4 manifest)

abbrev pub body_part : List ℕ → List ℕ
body_part manifest = take (length manifest - length (signature_part manifest)) manifest

-- whether a number of entries stands at the front, from 1 to 4096
abbrev pub has_count : List ℕ → Bool
has_count manifest =
    nat_le 4 (length manifest) && nat_le 1 (count_of manifest) && nat_le (count_of manifest) 4096

-- whether so many entries follow it, whatever follows them
abbrev pub has_entries : List ℕ → Bool
has_entries manifest =
    has_count manifest && are_entries (count_of manifest) [] (drop 4 manifest)

-- whether bytes have the form of a manifest, of whatever signature
abbrev pub is_manifest : Scheme → List ℕ → Bool
is_manifest Z manifest =
    has_entries manifest && length (signature_part manifest) == signature_size Z

-- why a manifest is refused, whatever the store has
abbrev pub form_refusal : Scheme → List ℕ → Option CheckError
form_refusal Z manifest = if is_manifest Z manifest then None else Some Form

abbrev pub signature_refusal : Scheme → List ℕ → List ℕ → Option CheckError
signature_refusal Z key manifest =
    if is_valid Z Pure key manifest_context (body_part manifest) (signature_part manifest)
    then None else Some Invalid

abbrev pub manifest_refusal : Scheme → List ℕ → List ℕ → Option CheckError
manifest_refusal Z key manifest = first_refusal
    (form_refusal Z manifest ∷ signature_refusal Z key manifest ∷ [])

-- why entry number i isn't right, of such a length and digest, where the store has these bytes, if
-- it has the name
abbrev pub bytes_error : ℕ → ℕ → List ℕ → Option (List ℕ) → Option CheckError
bytes_error i len digest None = Some (Missing i)
bytes_error i len digest (Some bytes) =
    if length bytes == len && bytes_eq (sha256 bytes) digest then None else Some (Differs i)

-- the first of these that stands, of entries that are numbered from i on
abbrev pub entries_error : Files → ℕ → List Entry → Option CheckError
entries_error files i [] = None
entries_error files i (entry ∷ entries) = first_refusal
    (bytes_error i entry.len entry.digest (bytes_of files entry.name)
    ∷ entries_error files (i + 1) entries ∷ [])

-- why a manifest isn't accepted over a store with these files
abbrev pub check_error : Scheme → List ℕ → List ℕ → Files → Option CheckError
check_error Z key manifest files = first_refusal
    (manifest_refusal Z key manifest ∷ entries_error files 0 (entries_of manifest) ∷ [])

-- the call is refused for exactly this cause, or ends by a fault
abbrev pub RefusedOrFault : {T : Type 0} → Result T CheckError → Option CheckError → Type 0
RefusedOrFault result refusal = MatchResult result (λ _. refusal ≡ None)
    (λ e. (e ≡ Fault) ⊎ (refusal ≡ Some e))

-- it isn't refused for the manifest alone
abbrev pub SpeaksOfEntries : {T : Type 0} → Result T CheckError → Type 0
SpeaksOfEntries result = IfErr result (λ e. (e ≢ Form) × (e ≢ Invalid))

-- the store has an entry's name, with bytes of that number and digest
abbrev pub HasEntry : Files → Entry → Type 0
HasEntry files entry =
    IsSomeAnd (bytes_of files entry.name) (λ bytes. entry ≡ entry_of entry.name bytes)

-- the store hasn't an entry's name, or has other bytes there
abbrev pub LacksEntry : Files → Entry → Type 0
LacksEntry files entry = bytes_of files entry.name ≡ None

abbrev pub HasOther : Files → Entry → Type 0
HasOther files entry =
    IsSomeAnd (bytes_of files entry.name) (λ bytes. entry ≢ entry_of entry.name bytes)

-- entry number i is so, and the store has each before it
pub record IsFirst (files : Files) (Is : Files → Entry → Type 0) (i : ℕ) (entries : List Entry)
    : Type 0 where
  pub before : List Entry
  pub entry : Entry
  pub later : List Entry
  pub entries_are : entries ≡ before ++ entry ∷ later
  pub number : length before ≡ i
  pub each_before : AllByRecursion (HasEntry files) before
  pub is : Is files entry

-- an error of an entry tells the number of one that there is
abbrev pub NamesEntry : List Entry → CheckError → Type 0
NamesEntry entries (Missing i) = i < length entries
NamesEntry entries (Differs i) = i < length entries
NamesEntry entries error = ⊤

-- and tells the truth of it
abbrev pub SpeaksOf : Files → List Entry → CheckError → Type 0
SpeaksOf files entries (Missing i) = IsSomeAnd (slice_get entries i) (LacksEntry files)
SpeaksOf files entries (Differs i) = IsSomeAnd (slice_get entries i) (HasOther files)
SpeaksOf files entries error = ⊤
