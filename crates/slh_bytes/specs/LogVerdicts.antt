-- What is said of an entry, of a growth and of a head by bytes alone. Z is the scheme; a set is seen
-- as its name.
use Rattle.std.specs.Prelude.{◌≡◌, ◌≢◌, ℕ, List, Option, None, Some, Result, Ok, Err}
use Rattle.slh_core.specs.Parameters.{Scheme}
use Rattle.slh_sets.specs.Sets.{name_of, scheme_for}
use Rattle.slh_log.specs.Calls.{form_refusal, growth_refusal, presence_refusal}
use Rattle.slh_log.specs.declared.error.OpenError.{OpenError}
use Rattle.slh_log.specs.Reading.{read_root, read_size}
use Rattle.slh_bytes.specs.LogHeads.{head_refusal}
use Rattle.slh_bytes.specs.declared.log_verdicts.EntryError.{EntryError}
use Rattle.slh_bytes.specs.declared.log_verdicts.EntryError.TheVariants.{Head, Path}
use Rattle.slh_bytes.specs.declared.log_verdicts.HeadError.{HeadError}
use Rattle.slh_bytes.specs.declared.log_verdicts.HeadError.TheVariants.{Unopened, OtherRoot}
use Rattle.slh_bytes.specs.declared.log_verdicts.LogError.{LogError}
use Rattle.slh_bytes.specs.declared.log_verdicts.LogError.TheVariants.{Old, New, Proof}
use Rattle.slh_bytes.specs.declared.log_verdicts.Signer.{Signer}

-- a checkpoint opens to this size and this root
pub record OpensTo (Z : Scheme) (set key origin bytes : List ℕ) (size : ℕ)
    (root : List ℕ) : Type 0 where
  pub accepted : head_refusal Z set key origin bytes ≡ None
  pub size_is : read_size bytes ≡ Some size
  pub root_is : read_root bytes ≡ Some root

-- the checkpoint opens, and the path shows the entry, or the reason why not
abbrev pub IsPresenceVerdict : Scheme → List ℕ → List ℕ → List ℕ → List ℕ → ℕ → List ℕ
    → List (List ℕ) → Result (Unit {0}) EntryError → Type 0
IsPresenceVerdict Z set key origin bytes index entry path (Ok _) =
    (size : ℕ) × (root : List ℕ) × OpensTo Z set key origin bytes size root
    × (presence_refusal size root index entry path ≡ None)
IsPresenceVerdict Z set key origin bytes index entry path (Err (Head error)) =
    head_refusal Z set key origin bytes ≡ Some error
IsPresenceVerdict Z set key origin bytes index entry path (Err (Path error)) =
    (size : ℕ) × (root : List ℕ) × OpensTo Z set key origin bytes size root
    × (presence_refusal size root index entry path ≡ Some error)

-- both checkpoints open, and the proof shows that the log grew, or the reason why not
abbrev pub IsGrowthVerdict : Scheme → List ℕ → List ℕ → List ℕ → List ℕ → List ℕ
    → List (List ℕ) → Result (Unit {0}) LogError → Type 0
IsGrowthVerdict Z set key origin old new proof (Ok _) =
    (m : ℕ) × (r : List ℕ) × (n : ℕ) × (s : List ℕ) × OpensTo Z set key origin old m r
    × OpensTo Z set key origin new n s × (growth_refusal m r n s proof ≡ None)
IsGrowthVerdict Z set key origin old new proof (Err (Old error)) =
    head_refusal Z set key origin old ≡ Some error
IsGrowthVerdict Z set key origin old new proof (Err (New error)) =
    (head_refusal Z set key origin old ≡ None) × (head_refusal Z set key origin new ≡ Some error)
IsGrowthVerdict Z set key origin old new proof (Err (Proof error)) =
    (m : ℕ) × (r : List ℕ) × (n : ℕ) × (s : List ℕ) × OpensTo Z set key origin old m r
    × OpensTo Z set key origin new n s × (growth_refusal m r n s proof ≡ Some error)

-- why a checkpoint isn't one of a signer; without one, why its bytes are none
abbrev pub signer_refusal : Option Signer → List ℕ → Option OpenError
signer_refusal None bytes = form_refusal bytes
signer_refusal (Some s) bytes =
    head_refusal (scheme_for s.set) (name_of s.set) s.key.now s.origin.now bytes

-- the checkpoint is one of the signer, and its root is that of the entries, or the reason why not
abbrev pub IsHeadVerdict : Option OpenError → List ℕ → List ℕ → Result (Unit {0}) HeadError → Type 0
IsHeadVerdict refusal bytes root (Ok _) = (refusal ≡ None) × (read_root bytes ≡ Some root)
IsHeadVerdict refusal bytes root (Err (Unopened error)) = refusal ≡ Some error
IsHeadVerdict refusal bytes root (Err OtherRoot) =
    (refusal ≡ None) × (read_root bytes ≢ Some root)
