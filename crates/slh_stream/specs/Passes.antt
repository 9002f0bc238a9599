-- What the two passes of signing stand for.
use Rattle.std.specs.Prelude.{◌≡◌, ℕ, List, [], ◌∷◌, Option, Some, None, length, unwrap_or}
use Rattle.std.specs.Prelude.{if◌then◌else◌}
use Rattle.std.specs.Str.{bytes_eq}
use Rattle.slh_core.specs.Bytes.{part}
use Rattle.slh_core.specs.Parameters.{Scheme}
use Rattle.slh_dsa.specs.Calls.{sign_input_refusal}
use Rattle.slh_dsa.specs.declared.error.Error.{Error}
use Rattle.slh_dsa.specs.declared.error.Error.TheVariants.{MessageTooLong}
use Rattle.slh_stream.specs.declared.pass_error.PassError.{PassError}
use Rattle.slh_stream.specs.declared.pass_error.PassError.TheVariants.{Length, Changed}
use Rattle.slh_trees.specs.Checking.{signature_size}
use Rattle.slh_trees.specs.Signing.{digest_signature}
use Rattle.slh_frames.specs.Frames.{frame}
use Rattle.slh_core.specs.Refusals.{first_refusal, length_refusal, message_refusal}

-- The first pass stands for a signing key, a randomizer, or none, a context and a message: PRF_msg
-- was begun for the key's PRF key, of n bytes, and has absorbed the frame of the message.
pub record IsFirst (n : ℕ) (authenticates : List ℕ → List ℕ → List ℕ → Type 0)
    (held held_context kept : List ℕ) (taken : ℕ) (key : List ℕ) (opt_rand : Option (List ℕ))
    (context message : List ℕ) : Type 0 where
  pub key_is : held ≡ key
  pub context_is : held_context ≡ context
  pub randomizer_is : kept ≡ unwrap_or opt_rand (part n key 2)
  pub taken_is : taken ≡ length message
  pub stands : authenticates (part n key 1) kept (frame context message)

-- So does the second, which has also begun H_msg for R.
pub record IsSecond (n : ℕ) (authenticates : List ℕ → List ℕ → List ℕ → Type 0)
    (digests : List ℕ → List ℕ → List ℕ → List ℕ → Type 0) (held kept rand : List ℕ) (taken : ℕ)
    (key : List ℕ) (opt_rand : Option (List ℕ)) (context message : List ℕ) : Type 0 where
  pub key_is : held ≡ key
  pub randomizer_is : kept ≡ unwrap_or opt_rand (part n key 2)
  pub taken_is : taken ≡ length message
  pub stands : authenticates (part n key 1) kept (frame context message)
  pub hashed : digests rand (part n key 2) (part n key 3) (frame context message)

-- The bytes are the signature by a key, with a randomizer, of what H_msg stands for.
pub record IsSigned (Z : Scheme) (n : ℕ) (digests : List ℕ → List ℕ → List ℕ → List ℕ → Type 0)
    (key rand sig : List ℕ) : Type 0 where
  pub digest : List ℕ
  pub hashed : (r s root m : List ℕ) → digests r s root m → digest ≡ Z.suite.h_msg r s root m
  pub written : sig ≡ digest_signature Z (part n key 2) (part n key 0) rand digest

-- PRF_msg of what is signed
abbrev pub randomizer_for : Scheme → List ℕ → Option (List ℕ) → List ℕ → List ℕ
randomizer_for Z key opt_rand message =
    Z.suite.prf_msg (part Z.n key 1) (unwrap_or opt_rand (part Z.n key 2)) message

-- why the second pass writes no signature into so many bytes: PRF_msg isn't R
abbrev pub pass_refusal : Scheme → List ℕ → Option (List ℕ) → List ℕ → List ℕ → ℕ → Option PassError
pass_refusal Z key opt_rand message rand len = first_refusal
    (length_refusal Length (signature_size Z) len
    ∷ (if bytes_eq (randomizer_for Z key opt_rand message) rand then None else Some Changed) ∷ [])

-- why two passes come to no end: the first is refused for what it is given, or the second for its
-- message
abbrev pub passes_refusal : Scheme → List ℕ → Option (List ℕ) → List ℕ → List ℕ → Option Error
passes_refusal Z context opt_rand before message = first_refusal
    (sign_input_refusal Z context opt_rand before ∷ message_refusal MessageTooLong message ∷ [])
