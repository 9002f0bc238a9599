-- What is answered where a manifest is built. Z is the scheme, of values of n bytes.
use Rattle.std.specs.Prelude.{◌≡◌, ◌≤◌, ◌^◌, ℕ, List, [], ◌∷◌, ◌++◌, length, nat_lt}
use Rattle.std.specs.Prelude.{Option, None, Some, Result, Ok, Err, MatchResult, if◌then◌else◌}
use Rattle.std.specs.Prelude.{◌⊎◌, ◌==◌, IfSome, OnOk, OnErr, unwrap_or}
use Rattle.sha256_lanes.specs.Sha256.{sha256}
use Rattle.slh_core.specs.Parameters.{Scheme}
use Rattle.slh_frames.specs.Frames.{frame}
use Rattle.slh_trees.specs.Signing.{signature_of}
use Rattle.slh_core.specs.Refusals.{first_refusal, randomizer_refusal}
use Rattle.slh_manifest.specs.Files.{Files, bytes_of}
use Rattle.slh_manifest.specs.Manifest.{Rise, body_bytes, manifest_context, may_follow}
use Rattle.slh_manifest.specs.declared.entry.Entry.{Entry}
use Rattle.slh_manifest.specs.declared.error.BuildError.{BuildError}
use Rattle.slh_manifest.specs.declared.error.BuildError.TheVariants.{Name, Full, Fault, Missing}
use Rattle.slh_manifest.specs.declared.error.BuildError.TheVariants.{TooLarge, Empty, Randomizer}
use Rattle.slh_manifest.specs.declared.error.BuildError.TheVariants.{Memory}

-- what a builder keeps: entries of a manifest, or none yet
pub record IsBuilt (entries : List Entry) : Type 0 where
  pub few : length entries ≤ 4096
  pub rise : Rise [] entries

-- the name of the last entry after this name, which is the last where there are none
abbrev pub last_name : List ℕ → List Entry → List ℕ
last_name last [] = last
last_name last (entry ∷ entries) = last_name entry.name entries

-- why a name isn't taken, whatever the store has
abbrev pub name_refusal : List Entry → List ℕ → Option BuildError
name_refusal entries name = first_refusal
    ((if may_follow (last_name [] entries) name then None else Some Name)
    ∷ (if nat_lt (length entries) 4096 then None else Some Full) ∷ [])

-- why what the store has under it isn't
abbrev pub bytes_refusal : Option (List ℕ) → Option BuildError
bytes_refusal None = Some Missing
bytes_refusal (Some bytes) = if nat_lt (2 ^ 32) (length bytes) then Some TooLarge else None

-- why a name isn't added, from a store with these files
abbrev pub add_refusal : List Entry → List ℕ → Files → Option BuildError
add_refusal entries name files = first_refusal
    (name_refusal entries name ∷ bytes_refusal (bytes_of files name) ∷ [])

-- why an entry of this name and so many bytes isn't
abbrev pub digest_refusal : List Entry → List ℕ → ℕ → Option BuildError
digest_refusal entries name len = first_refusal
    (name_refusal entries name ∷ (if nat_lt (2 ^ 32) len then Some TooLarge else None) ∷ [])

-- the entry of a name with these bytes
abbrev pub entry_of : List ℕ → List ℕ → Entry
entry_of name bytes = record { name = name; len = length bytes; digest = sha256 bytes }

-- one more entry, of this name
pub record IsAdded (old : List Entry) (name : List ℕ) (new : List Entry) : Type 0 where
  pub entry : Entry
  pub name_is : entry.name ≡ name
  pub entries : new ≡ old ++ entry ∷ []

-- the call is refused for exactly this cause, or for want of memory where there is none; or it ends
-- by a fault
abbrev pub RefusedOrFault : {T : Type 0} → Result T BuildError → Option BuildError → Type 0
RefusedOrFault result refusal = MatchResult result (λ _. refusal ≡ None)
    (λ e. (e ≡ Fault) ⊎ (e ≡ unwrap_or refusal Memory))

-- there are entries
abbrev pub empty_refusal : List Entry → Option BuildError
empty_refusal entries = if length entries == 0 then Some Empty else None

-- why no manifest is made of these entries
abbrev pub seal_refusal : Scheme → List Entry → Option (List ℕ) → Option BuildError
seal_refusal Z entries opt_rand =
    first_refusal (empty_refusal entries ∷ randomizer_refusal Randomizer Z.n opt_rand ∷ [])

-- a manifest: the body of these entries, and its signature
abbrev pub manifest_of : Scheme → List ℕ → Option (List ℕ) → List Entry → List ℕ
manifest_of Z key opt_rand entries =
    let body = body_bytes entries in
    body ++ signature_of Z key opt_rand (frame manifest_context body)

-- what is signed of these entries, in mode `Pure`
abbrev pub signed_message : List Entry → List ℕ
signed_message entries = frame manifest_context (body_bytes entries)

-- a call of `add`: its name, and what it answered
pub record Call : Type 0 where
  pub name : List ℕ
  pub result : Result (Unit {0}) BuildError

-- what the clauses of `add` say of a call over a store with these files
pub record IsCall (files : Files) (old : List Entry) (call : Call) (new : List Entry)
    : Type 0 where
  pub told : RefusedOrFault call.result (add_refusal old call.name files)
  pub entry : OnOk call.result (IfSome (bytes_of files call.name)
      (λ bytes. new ≡ old ++ entry_of call.name bytes ∷ []))
  pub same : OnErr call.result (new ≡ old)

-- calls one after another, from some entries to others
abbrev pub AreCalls : Files → List Entry → List Call → List Entry → Type 0
AreCalls files old [] new = new ≡ old
AreCalls files old (call ∷ later) new =
    (next : List Entry) × (IsCall files old call next × AreCalls files next later new)

-- the names of those that answered Ok
abbrev pub if_ok : Result (Unit {0}) BuildError → List ℕ → List (List ℕ) → List (List ℕ)
if_ok (Ok answer) name later = name ∷ later
if_ok (Err error) name later = later

abbrev pub ok_names : List Call → List (List ℕ)
ok_names [] = []
ok_names (call ∷ later) = if_ok call.result call.name (ok_names later)
