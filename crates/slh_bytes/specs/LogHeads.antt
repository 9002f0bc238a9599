-- What is opened and signed by the bytes of a key. Z is the scheme; a set is seen as its name.
use Rattle.std.specs.Prelude.{◌≡◌, ℕ, ◌*◌, ◌/◌, ◌==◌, List, drop, length, Option, Some, Result, IfOk}
use Rattle.std.specs.Prelude.{if◌then◌else◌}
use Rattle.std.specs.Option.{option_map}
use Rattle.slh_core.specs.Parameters.{Scheme}
use Rattle.slh_log.specs.Calls.{checkpoint_refusal, open_refusal}
use Rattle.slh_log.specs.Reading.{read_root, read_size}
use Rattle.slh_log.specs.declared.error.CheckpointError.TheVariants.{Memory}
use Rattle.slh_log.specs.declared.error.OpenError.{OpenError}
use Rattle.slh_log.specs.declared.error.OpenError.TheVariants.{Unsigned}
use Rattle.slh_log.specs.declared.note.Checkpoint.{Checkpoint}
use Rattle.slh_bytes.specs.declared.log_heads.SignHeadError.{SignHeadError}
use Rattle.slh_bytes.specs.declared.log_heads.SignHeadError.TheVariants.{Head, Key}
use Rattle.slh_core.specs.Refusals.{RefusedExactly}

-- why a checkpoint isn't opened; bytes that are no key of the set signed nothing
abbrev pub head_refusal : Scheme → List ℕ → List ℕ → List ℕ → List ℕ → Option OpenError
head_refusal Z set key origin bytes =
    if length key == 2 * Z.n then open_refusal Z set key origin bytes else Some Unsigned

-- it is refused for this reason, or it has this size and this root
pub record IsHeadBy (Z : Scheme) (set key origin bytes : List ℕ)
    (result : Result Checkpoint OpenError) : Type 0 where
  pub refusal : RefusedExactly result (head_refusal Z set key origin bytes)
  pub size : IfOk result (λ head. read_size bytes ≡ Some head.size)
  pub root : IfOk result (λ head. read_root bytes ≡ Some head.root)

-- the bytes of a signing key's verifying key
abbrev pub public_half : List ℕ → List ℕ
public_half key = drop (length key / 2) key

-- why a head isn't signed by the bytes of a signing key
abbrev pub sign_refusal : Scheme → List ℕ → List ℕ → Option (List ℕ) → Option SignHeadError
sign_refusal Z key origin opt_rand =
    if length key == 4 * Z.n
    then option_map Head (checkpoint_refusal Z origin opt_rand)
    else Some Key

-- there was no memory to sign it
abbrev pub no_memory : SignHeadError
no_memory = Head Memory
