-- Signing and verifying by the digest of a message (FIPS 205, algorithms 23 and 25).
use Rattle.std.specs.Prelude.{ℕ, List, [], ◌∷◌, ◌++◌, length, Option, None, Some}
use Rattle.sha256_lanes.specs.Sha256.{sha256}
use Rattle.sha2.specs.Sha512.{sha512}
use Rattle.slh_core.specs.Parameters.{Scheme}
use Rattle.slh_dsa.specs.Calls.{opt_rand_refusal, root_refusal, signature_refusal}
use Rattle.slh_frames.specs.Frames.{head_of}
use Rattle.slh_frames.specs.Messages.{digest_size_refusal, digest_tail}
use Rattle.slh_dsa.specs.declared.error.Error.{Error}
use Rattle.slh_dsa.specs.declared.error.Error.TheVariants.{Length, ContextTooLong}
use Rattle.slh_frames.specs.declared.frame.Mode.{Mode}
use Rattle.slh_frames.specs.declared.frame.Mode.TheVariants.{Pure, Sha256, Sha512}
use Rattle.slh_core.specs.Refusals.{context_refusal, first_refusal}

-- the digest of a message in a mode that has one
abbrev pub digest_in : Mode → List ℕ → List ℕ
digest_in Pure message = message
digest_in Sha256 message = sha256 message
digest_in Sha512 message = sha512 message

-- the whole, for a context of at most 255 bytes
abbrev pub digest_frame : Mode → List ℕ → List ℕ → List ℕ
digest_frame mode context digest = head_of mode context ++ context ++ digest_tail mode digest

-- a digest has the bytes of its hash function; the mode Pure has no digest
abbrev pub digest_refusal : Mode → ℕ → Option Error
digest_refusal mode len = digest_size_refusal Length mode len

-- why there is no message of a digest
abbrev pub digest_input_refusal : Mode → List ℕ → List ℕ → Option Error
digest_input_refusal mode context digest = first_refusal
    (digest_refusal mode (length digest) ∷ context_refusal ContextTooLong context ∷ [])

-- what verifying by a digest answers
abbrev pub verify_digest_error : Scheme → Mode → List ℕ → List ℕ → List ℕ → List ℕ → Option Error
verify_digest_error Z mode key context digest sig = first_refusal
    (signature_refusal Z (length sig) ∷ digest_refusal mode (length digest)
    ∷ context_refusal ContextTooLong context
    ∷ root_refusal Z key (digest_frame mode context digest) sig ∷ [])

-- why signing by a digest is refused
abbrev pub sign_digest_refusal : Scheme → Mode → List ℕ → Option (List ℕ) → List ℕ → ℕ
    → Option Error
sign_digest_refusal Z mode context opt_rand digest len = first_refusal
    (signature_refusal Z len ∷ digest_refusal mode (length digest)
    ∷ context_refusal ContextTooLong context ∷ opt_rand_refusal Z opt_rand ∷ [])

-- the mode has no digest
abbrev pub mode_refusal : Mode → Option Error
mode_refusal Pure = Some Length
mode_refusal Sha256 = None
mode_refusal Sha512 = None

-- why signing by the digest of a message in pieces is refused as it begins
abbrev pub begin_digest_refusal : Scheme → Mode → List ℕ → Option (List ℕ) → Option Error
begin_digest_refusal Z mode context opt_rand = first_refusal
    (mode_refusal mode ∷ context_refusal ContextTooLong context ∷ opt_rand_refusal Z opt_rand ∷ [])
