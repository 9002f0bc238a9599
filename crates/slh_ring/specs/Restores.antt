-- What restoring a ring answers. Z is the scheme, and NAME the parameter set's name.
use Rattle.std.specs.Prelude.{◌≡◌, ◌≢◌, ◌⊎◌, ℕ, suc, ◌+◌, List, [], ◌∷◌, ◌++◌, length}
use Rattle.std.specs.Prelude.{Option, None, Some}
use Rattle.std.specs.Prelude.{Result, Ok, Err, IsOk, if◌then◌else◌}
use Rattle.std.specs.List.{AllByRecursion}
use Rattle.std.specs.Str.{bytes_eq}
use Rattle.slh_core.specs.Parameters.{Scheme}
use Rattle.slh_ring.specs.Keys.{key_tag}
use Rattle.slh_ring.specs.Records.{Entry, count_in, has_form, paths_of, recorded}
use Rattle.slh_ring.specs.declared.error.RestoreError.{RestoreError}
use Rattle.slh_ring.specs.declared.error.RestoreError.TheVariants.{Form, Mismatch, Memory}

-- the number of the first entry, from i on, whose 8 bytes aren't those of its key
abbrev pub first_mismatch : Scheme → List ℕ → List ℕ → ℕ → List Entry → Option ℕ
first_mismatch Z name master i [] = None
first_mismatch Z name master i (e ∷ es) =
    if bytes_eq e.tag (key_tag Z name master e.path)
    then first_mismatch Z name master (suc i) es else Some i

-- the 8 bytes of an entry are those of its key
abbrev pub HasOwnTag : Scheme → List ℕ → List ℕ → Entry → Type 0
HasOwnTag Z name master entry = entry.tag ≡ key_tag Z name master entry.path

-- those of entry number i aren't, and those of each before it are
pub record IsFirstOther (Z : Scheme) (name master : List ℕ) (i : ℕ) (entries : List Entry)
    : Type 0 where
  pub before : List Entry
  pub entry : Entry
  pub later : List Entry
  pub entries_are : entries ≡ before ++ entry ∷ later
  pub number : length before ≡ i
  pub each_before : AllByRecursion (HasOwnTag Z name master) before
  pub other : entry.tag ≢ key_tag Z name master entry.path

-- the paths, where there is no mismatch
abbrev pub matching : Option ℕ → List (List ℕ) → Result (List (List ℕ)) RestoreError
matching None paths = Ok paths
matching (Some i) paths = Err (Mismatch i)

-- what restoring the bytes of a record answers
abbrev pub restore_answer : Scheme → List ℕ → List ℕ → List ℕ
    → Result (List (List ℕ)) RestoreError
restore_answer Z name master bytes =
    if has_form name bytes then
    (let entries = recorded name bytes in
    matching (first_mismatch Z name master 0 entries) (paths_of entries))
    else Err Form

-- the call answers this, or finds no memory where there is no refusal
abbrev pub AnswersOrNoMemory : (result answer : Result (List (List ℕ)) RestoreError) → Type 0
AnswersOrNoMemory result answer =
    (result ≡ answer) ⊎ ((result ≡ Err Memory) × IsOk answer)

-- how many keys are made to find the first mismatch among so many entries
abbrev pub keys_made : Option ℕ → ℕ → ℕ
keys_made None count = count
keys_made (Some i) count = i + 1

-- how many keys restoring makes
abbrev pub restored_keys : Scheme → List ℕ → List ℕ → List ℕ → ℕ
restored_keys Z name master bytes =
    if has_form name bytes then
    keys_made (first_mismatch Z name master 0 (recorded name bytes)) (count_in name bytes)
    else 0
