-- What opening a manifest and finding its entries answers, by the numbers of the header.
use Rattle.std.specs.Prelude.{◌≡◌, ℕ, zero, suc, ◌+◌, ◌*◌, List, [], ◌∷◌, length, drop}
use Rattle.std.specs.Prelude.{slice_get, slice_range, ◌==◌, if◌then◌else◌, Option, None, Some, Result, Ok, Err}
use Rattle.std.specs.Str.{bytes_eq}
use Rattle.slh_core.specs.Parameters.{Scheme}
use Rattle.slh_dsa_c.specs.Status.{in_set, status_of}
use Rattle.slh_dsa_c.specs.declared.manifests.CEntry.{CEntry}
use Rattle.slh_manifest.specs.Checking.{entries_of, has_entries, manifest_refusal}
use Rattle.slh_manifest.specs.Reading.{after_front, front_size}
use Rattle.slh_manifest.specs.declared.entry.Entry.{Entry}
use Rattle.slh_manifest.specs.declared.error.CheckError.{CheckError}
use Rattle.slh_manifest.specs.declared.error.CheckError.TheVariants.{Form, Invalid, Missing}
use Rattle.slh_manifest.specs.declared.error.CheckError.TheVariants.{Differs, Fault}
use Rattle.slh_sets.specs.Sets.{scheme_numbered}

-- the numbers of the causes. The last three are those of files, of which no export speaks
abbrev pub manifest_number : CheckError → ℕ
manifest_number Form = 14
manifest_number Invalid = 1
manifest_number (Missing i) = 16
manifest_number (Differs i) = 1
manifest_number Fault = 1

-- how many entries a manifest has that isn't refused, or the number of the refusal
abbrev pub count_or_number : List ℕ → Option CheckError → Result ℕ ℕ
count_or_number manifest None = Ok (length (entries_of manifest))
count_or_number manifest (Some refusal) = Err (manifest_number refusal)

-- what opening a manifest under a verifying key's bytes answers
abbrev pub open_answer : Scheme → List ℕ → List ℕ → Result ℕ ℕ
open_answer Z key manifest =
    if length key == 2 * Z.n then count_or_number manifest (manifest_refusal Z key manifest)
    else Err 5

abbrev pub open_status : ℕ → List ℕ → List ℕ → ℕ
open_status set key manifest = in_set (scheme_numbered set) (λ Z.
    status_of (open_answer Z key manifest))

-- how many bytes the first entries take, so many
abbrev pub entries_size : ℕ → List ℕ → ℕ
entries_size zero bytes = 0
entries_size (suc count) bytes = front_size bytes + entries_size count (after_front bytes)

-- where entry number i begins, and behind its first byte the name
abbrev pub entry_place : List ℕ → ℕ → ℕ
entry_place manifest i = 4 + entries_size i (drop 4 manifest)

-- how an entry goes out whose name stands at a place
abbrev pub c_entry : ℕ → Entry → CEntry
c_entry name_at entry = record {
  name_at = name_at;
  name_bytes = length entry.name;
  file_bytes = entry.len;
  digest = entry.digest;
}

-- the entry, where there is one, or the number that tells that there is none
abbrev pub entry_or_number : ℕ → Option Entry → Result CEntry ℕ
entry_or_number name_at None = Err 16
entry_or_number name_at (Some entry) = Ok (c_entry name_at entry)

-- entry number i of a manifest
abbrev pub entry_answer : List ℕ → ℕ → Result CEntry ℕ
entry_answer manifest i =
    if has_entries manifest
    then entry_or_number (entry_place manifest i + 1) (slice_get (entries_of manifest) i)
    else Err 14

-- the number of the first entry with a name, of entries that are numbered from i on
abbrev pub number_from : List ℕ → ℕ → List Entry → Option ℕ
number_from name i [] = None
number_from name i (entry ∷ entries) =
    if bytes_eq entry.name name then Some i else number_from name (i + 1) entries

abbrev pub number_named : List ℕ → List ℕ → Option ℕ
number_named manifest name = number_from name 0 (entries_of manifest)

abbrev pub entry_numbered : List ℕ → Option ℕ → Result CEntry ℕ
entry_numbered manifest None = Err 16
entry_numbered manifest (Some i) = entry_answer manifest i

-- the first entry of a manifest with a name
abbrev pub find_answer : List ℕ → List ℕ → Result CEntry ℕ
find_answer manifest name =
    if has_entries manifest then entry_numbered manifest (number_named manifest name) else Err 14

-- a name stands where an entry that goes out says
abbrev pub NameStands : List ℕ → CEntry → List ℕ → Type 0
NameStands manifest entry name =
    slice_range manifest entry.name_at (entry.name_at + entry.name_bytes) ≡ name
