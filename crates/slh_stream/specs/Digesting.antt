-- What a signer by the digest of a message in pieces stands for.
use Rattle.std.specs.Prelude.{◌≡◌, ℕ, List, Option, length, unwrap_or}
use Rattle.slh_core.specs.Bytes.{part}
use Rattle.slh_frames.specs.declared.frame.Mode.{Mode}
use Rattle.slh_frames.specs.Tails.{HasDigest, IsTailOf, mode_of}
use Rattle.slh_frames.specs.declared.pieces.Tail.{Tail}

-- The signer stands for a mode that has a digest, a signing key, a randomizer, or none, a context
-- and a message.
pub record IsDigesting (n : ℕ) (tail : Tail) (held held_context kept : List ℕ) (taken : ℕ)
    (mode : Mode) (key : List ℕ) (opt_rand : Option (List ℕ)) (context message : List ℕ)
    : Type 0 where
  pub mode_is : mode_of tail ≡ mode
  pub has_digest : HasDigest mode
  pub key_is : held ≡ key
  pub context_is : held_context ≡ context
  pub randomizer_is : kept ≡ unwrap_or opt_rand (part n key 2)
  pub taken_is : taken ≡ length message
  pub tail_is : IsTailOf tail message
