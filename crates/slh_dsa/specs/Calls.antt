-- What the calls on keys answer (FIPS 205, sections 9 and 10). Z is the scheme, of values of n
-- bytes.
use Rattle.std.specs.Prelude.{◌≡◌, ℕ, ◌*◌, List, [], ◌∷◌, length, Bool}
use Rattle.std.specs.Prelude.{Option, None, Some, Result, IfOk, if◌then◌else◌}
use Rattle.std.specs.Str.{bytes_eq}
use Rattle.slh_core.specs.Bytes.{part}
use Rattle.slh_core.specs.Parameters.{Scheme}
use Rattle.slh_trees.specs.Checking.{checked_root, signature_size}
use Rattle.slh_trees.specs.Keys.{IsTrueKey, signing_key_bytes}
use Rattle.slh_core.specs.Refusals.{RefusedExactly, context_refusal, first_refusal, length_refusal}
use Rattle.slh_core.specs.Refusals.{message_refusal, randomizer_refusal}
use Rattle.slh_frames.specs.Frames.{mode_frame}
use Rattle.slh_dsa.specs.declared.error.Error.{Error}
use Rattle.slh_dsa.specs.declared.error.Error.TheVariants.{Length, ContextTooLong, RandomizerLength}
use Rattle.slh_dsa.specs.declared.error.Error.TheVariants.{MessageTooLong, Invalid}
use Rattle.slh_frames.specs.declared.frame.Mode.{Mode}
use Rattle.slh_frames.specs.declared.frame.Mode.TheVariants.{Pure}

-- opt_rand has n bytes where it is given
abbrev pub opt_rand_refusal : Scheme → Option (List ℕ) → Option Error
opt_rand_refusal Z opt_rand = randomizer_refusal RandomizerLength Z.n opt_rand

-- why no key is made of three seeds
abbrev pub keygen_refusal : Scheme → List ℕ → List ℕ → List ℕ → Option Error
keygen_refusal Z sk_seed sk_prf pk_seed = first_refusal
    (length_refusal Length Z.n (length sk_seed) ∷ length_refusal Length Z.n (length sk_prf)
    ∷ length_refusal Length Z.n (length pk_seed) ∷ [])

-- why there is no signature of so many bytes
abbrev pub signature_refusal : Scheme → ℕ → Option Error
signature_refusal Z len = length_refusal Length (signature_size Z) len

-- why bytes are no signing key, and no verifying key
abbrev pub signing_key_refusal : Scheme → List ℕ → Option Error
signing_key_refusal Z key = length_refusal Length (4 * Z.n) (length key)

abbrev pub verifying_key_refusal : Scheme → List ℕ → Option Error
verifying_key_refusal Z key = length_refusal Length (2 * Z.n) (length key)

-- why signing is refused for what it is given
abbrev pub sign_input_refusal : Scheme → List ℕ → Option (List ℕ) → List ℕ → Option Error
sign_input_refusal Z context opt_rand message = first_refusal
    (context_refusal ContextTooLong context ∷ opt_rand_refusal Z opt_rand
    ∷ message_refusal MessageTooLong message ∷ [])

-- why signing a message that was made is refused, for the sizes of what comes with it
abbrev pub sign_message_refusal : Scheme → Option (List ℕ) → ℕ → Option Error
sign_message_refusal Z opt_rand len =
    first_refusal (signature_refusal Z len ∷ opt_rand_refusal Z opt_rand ∷ [])

-- why signing into so many bytes is refused
abbrev pub sign_refusal : Scheme → List ℕ → Option (List ℕ) → List ℕ → ℕ → Option Error
sign_refusal Z context opt_rand message len = first_refusal
    (signature_refusal Z len ∷ sign_input_refusal Z context opt_rand message ∷ [])

-- why verifying is refused before anything is hashed
abbrev pub verify_refusal : Scheme → List ℕ → List ℕ → List ℕ → Option Error
verify_refusal Z context message sig = first_refusal
    (signature_refusal Z (length sig) ∷ context_refusal ContextTooLong context
    ∷ message_refusal MessageTooLong message ∷ [])

-- whether a signature of a message leads to the root of a verifying key
abbrev pub leads_to_root : Scheme → List ℕ → List ℕ → List ℕ → Bool
leads_to_root Z key message sig =
    let root = part Z.n key 1 in
    bytes_eq (checked_root Z (part Z.n key 0) root message sig) root

-- why a signature is refused that has been looked at
abbrev pub root_refusal : Scheme → List ℕ → List ℕ → List ℕ → Option Error
root_refusal Z key message sig = if leads_to_root Z key message sig then None else Some Invalid

-- what verifying a signature of a message that was made answers
abbrev pub verify_message_error : Scheme → List ℕ → List ℕ → List ℕ → Option Error
verify_message_error Z key message sig =
    first_refusal (signature_refusal Z (length sig) ∷ root_refusal Z key message sig ∷ [])

-- whether a signature of a message with a context, signed in a mode, leads there
abbrev pub is_valid : Scheme → Mode → List ℕ → List ℕ → List ℕ → List ℕ → Bool
is_valid Z mode key context message sig =
    leads_to_root Z key (mode_frame mode context message) sig

-- what verifying answers: the first refusal, or `Invalid`, or none
abbrev pub hash_verify_error : Scheme → Mode → List ℕ → List ℕ → List ℕ → List ℕ → Option Error
hash_verify_error Z mode key context message sig = first_refusal
    (verify_refusal Z context message sig
    ∷ root_refusal Z key (mode_frame mode context message) sig ∷ [])

-- the same where the message is signed as it is
abbrev pub verify_error : Scheme → List ℕ → List ℕ → List ℕ → List ℕ → Option Error
verify_error Z = hash_verify_error Z Pure

-- why signing a message as it stands, without a context, is refused
abbrev pub sign_internal_refusal : Scheme → Option (List ℕ) → List ℕ → Option Error
sign_internal_refusal Z opt_rand message = first_refusal
    (opt_rand_refusal Z opt_rand ∷ message_refusal MessageTooLong message ∷ [])

-- what verifying a signature of a message as it stands answers
abbrev pub verify_internal_error : Scheme → List ℕ → List ℕ → List ℕ → Option Error
verify_internal_error Z key message sig = first_refusal
    (message_refusal MessageTooLong message ∷ root_refusal Z key message sig ∷ [])

-- the key of three seeds, made where all have n bytes. It is a true key, of 4n bytes.
pub record IsKeygenAnswer (Z : Scheme) (sk_seed sk_prf pk_seed : List ℕ)
    (result : Result (List ℕ) Error) : Type 0 where
  pub refusal : RefusedExactly result (keygen_refusal Z sk_seed sk_prf pk_seed)
  pub value : IfOk result (λ key. key ≡ signing_key_bytes Z sk_seed sk_prf pk_seed)
  pub true_key : IfOk result (λ key. IsTrueKey Z key × (length key ≡ 4 * Z.n))
