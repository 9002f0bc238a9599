-- What a verifier of a message in pieces stands for.
use Rattle.std.specs.Prelude.{◌≡◌, ℕ, ◌≤◌, List, ◌++◌, length, take}
use Rattle.slh_core.specs.Bytes.{part}
use Rattle.slh_core.specs.Parameters.{Scheme}
use Rattle.slh_frames.specs.Frames.{head_of, mode_frame}
use Rattle.slh_frames.specs.declared.frame.Mode.{Mode}
use Rattle.slh_trees.specs.Checking.{digest_root}
use Rattle.slh_frames.specs.Tails.{StandsAfter, mode_of}
use Rattle.slh_frames.specs.declared.pieces.Tail.{Tail}
use Rattle.slh_frames.specs.declared.message.TheConstants.{MAX_CONTEXT}

-- The verifier's state stands for a mode, the bytes of a verifying key, a context, a signature and
-- a message: H_msg was begun for the signature's randomizer, of n bytes, and the parts of the key,
-- and has absorbed what stands before the message, and of the message what is passed on.
pub record IsVerifying (n : ℕ) (digests : List ℕ → List ℕ → List ℕ → List ℕ → Type 0) (tail : Tail)
    (taken : ℕ) (seed root view : List ℕ) (mode : Mode) (key context sig message : List ℕ)
    : Type 0 where
  pub mode_is : mode_of tail ≡ mode
  pub seed_is : seed ≡ part n key 0
  pub root_is : root ≡ part n key 1
  pub sig_is : view ≡ sig
  pub context_fits : length context ≤ MAX_CONTEXT
  pub taken_is : taken ≡ length message
  pub stands :
      StandsAfter (digests (take n sig) seed root) tail (head_of mode context ++ context) message

-- From some digest a signature leads to a root, under a public seed.
pub record EndsIn (Z : Scheme) (seed root sig : List ℕ) : Type 0 where
  pub digest : List ℕ
  pub ends : digest_root Z seed digest sig ≡ root

-- H_msg of a message that is signed in a mode, with a signature's randomizer, under a verifying key
abbrev pub message_digest : Scheme → Mode → List ℕ → List ℕ → List ℕ → List ℕ → List ℕ
message_digest Z mode key context message sig = Z.suite.h_msg (take Z.n sig)
    (part Z.n key 0) (part Z.n key 1) (mode_frame mode context message)
