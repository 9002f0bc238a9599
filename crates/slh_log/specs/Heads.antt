-- Heads of a log that a client takes one after the other.
use Rattle.std.specs.Prelude.{◌≡◌, ◌≢◌, ℕ, List, [], ◌∷◌, ◌++◌, length, drop, All, true}
use Rattle.std.specs.Prelude.{Option, None, Some}
use Rattle.merkle_tree.specs.Binding.{entries_clash}
use Rattle.merkle_tree.specs.Clashes.{Inputs}
use Rattle.merkle_tree.specs.Tree.{entries_root}
use Rattle.sha256_lanes.specs.Sha256.{sha256}
use Rattle.slh_core.specs.Parameters.{Scheme}
use Rattle.slh_dsa.specs.Calls.{is_valid}
use Rattle.slh_frames.specs.declared.frame.Mode.TheVariants.{Pure}
use Rattle.slh_log.specs.Calls.{growth_refusal, open_refusal, read_signature}
use Rattle.slh_log.specs.Reading.{first_some, read_root, read_size, read_text}
use Rattle.slh_log.specs.Texts.{checkpoint_text, log_context}

-- a checkpoint opens under a verifying key of a set and an origin, to a size and a root
pub record IsOpened (Z : Scheme) (set key origin bytes : List ℕ) (size : ℕ) (root : List ℕ)
    : Type 0 where
  pub opens : open_refusal Z set key origin bytes ≡ None
  pub is_size : read_size bytes ≡ Some size
  pub is_root : read_root bytes ≡ Some root

-- the key's signature of the text that is read is there, and the text begins as that of a size and
-- a root under the origin
pub record IsSigned (Z : Scheme) (set key origin bytes : List ℕ) (size : ℕ) (root : List ℕ)
    : Type 0 where
  pub signed : List ℕ
  pub extension : List ℕ
  pub found : read_signature Z set key origin bytes ≡ Some signed
  pub valid : is_valid Z Pure key log_context (read_text bytes) (drop 4 signed) ≡ true
  pub text : read_text bytes ≡ checkpoint_text origin size root ++ extension

-- it opens to the size and the root of a list of entries
abbrev pub IsHead : Scheme → List ℕ → List ℕ → List ℕ → List ℕ → List (List ℕ) → Type 0
IsHead Z set key origin bytes entries =
    IsOpened Z set key origin bytes (length entries) (entries_root sha256 entries)

-- a later checkpoint, its entries, and the proof that leads there from the one before
pub record Step : Type 0 where
  pub bytes : List ℕ
  pub entries : List (List ℕ)
  pub proof : List (List ℕ)

-- the growth from a list of entries passes the check, by a proof of digests
pub record IsGrowth (entries : List (List ℕ)) (step : Step) : Type 0 where
  pub digests : All (λ d. length d ≡ 32) step.proof
  pub grows : growth_refusal (length entries) (entries_root sha256 entries) (length step.entries)
      (entries_root sha256 step.entries) step.proof ≡ None

-- each step is a head under one key and origin, and grew from the one before
abbrev pub AreTaken : Scheme → List ℕ → List ℕ → List ℕ → List (List ℕ) → List Step → Type 0
AreTaken Z set key origin entries [] = Unit {0}
AreTaken Z set key origin entries (step ∷ steps) =
    IsHead Z set key origin step.bytes step.entries × IsGrowth entries step
    × AreTaken Z set key origin step.entries steps

-- the entries of the last
abbrev pub last_entries : List (List ℕ) → List Step → List (List ℕ)
last_entries entries [] = entries
last_entries entries (step ∷ steps) = last_entries step.entries steps

-- the first pair of inputs that clashes where one of the steps is checked
abbrev pub steps_clash : List (List ℕ) → List Step → Option Inputs
steps_clash entries [] = None
steps_clash entries (step ∷ steps) = first_some
    (entries_clash sha256 entries step.entries step.proof) (steps_clash step.entries steps)

-- two different inputs with one digest were found
pub record IsFound (found : Option Inputs) : Type 0 where
  pub inputs : Inputs
  pub is : found ≡ Some inputs
  pub differ : inputs.first ≢ inputs.second
  pub digest : sha256 inputs.first ≡ sha256 inputs.second
