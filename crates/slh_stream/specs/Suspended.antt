-- What a verifier stands for that is put aside between two pieces.
use Rattle.std.specs.Prelude.{◌≡◌, ℕ, ◌≤◌, List, [], ◌++◌, length, replicate, take}
use Rattle.hmac_sha256.specs.Hash.{StandsFor}
use Rattle.sha512_lanes.specs.Hash.{StandsFor as StandsFor512}
use Rattle.slh_core.specs.Bytes.{part}
use Rattle.slh_core.specs.Parameters.{Scheme}
use Rattle.slh_frames.specs.Frames.{head_of}
use Rattle.slh_frames.specs.declared.frame.Mode.{Mode}
use Rattle.slh_frames.specs.declared.frame.Mode.TheVariants.{Pure, Sha256, Sha512}
use Rattle.slh_hash.specs.Suspended.{HasHashed, is_category_1, new_hashes}
use Rattle.slh_hash.specs.declared.resumable.Hashes.{Hashes}
use Rattle.slh_frames.specs.Tails.{StandsAfter}
use Rattle.slh_stream.specs.Verifying.{EndsIn}
use Rattle.slh_frames.specs.declared.pieces.Tail.{Tail}
use Rattle.slh_frames.specs.declared.message.TheConstants.{MAX_CONTEXT, MAX_MESSAGE}
use Rattle.slh_stream.specs.declared.suspended.SuspendedVerifier.{SuspendedVerifier}
use Rattle.slh_stream.specs.declared.suspended.VerifierNumbers.{VerifierNumbers}

-- the numbers of the modes
abbrev pub mode_number : Mode → ℕ
mode_number Pure = 0
mode_number Sha256 = 1
mode_number Sha512 = 2

-- the hash of the mode, where it has one, has absorbed the message
abbrev pub HasTail : Mode → Hashes → List ℕ → Type 0
HasTail Pure hashes m = Unit {0}
HasTail Sha256 hashes m = StandsFor hashes.sha256 m
HasTail Sha512 hashes m = StandsFor512 hashes.sha512 m

-- what of the message H_msg has absorbed as it is
abbrev pub passed_in : Mode → List ℕ → List ℕ
passed_in Pure m = m
passed_in Sha256 m = []
passed_in Sha512 m = []

-- The state stands for a mode, the bytes of a verifying key of values of n bytes, a context, the
-- randomizer of a signature and a message.
pub record IsSuspended (n : ℕ) (state : SuspendedVerifier) (mode : Mode)
    (key context rand message : List ℕ) : Type 0 where
  pub mode_is : state.mode ≡ mode_number mode
  pub seed_is : take n state.numbers.seed ≡ part n key 0
  pub root_is : take n state.numbers.root ≡ part n key 1
  pub rand_is : take n state.numbers.rand ≡ rand
  pub context_fits : length context ≤ MAX_CONTEXT
  pub taken_is : state.numbers.taken ≡ length message
  pub short : length message ≤ MAX_MESSAGE
  pub tail_is : HasTail mode state.numbers.tail message
  pub stands : HasHashed (is_category_1 n) state.numbers.front
      (rand ++ part n key 0 ++ part n key 1
      ++ ((head_of mode context ++ context) ++ passed_in mode message))

-- What holds of each state by which a signature is accepted, whatever its numbers are: it is of the
-- mode, it has counted at most 2^60 bytes, the signature begins with its randomizer, and leads from
-- a digest to its root.
pub record IsAccepted (Z : Scheme) (n : ℕ) (state : SuspendedVerifier) (mode : Mode) (sig : List ℕ)
    : Type 0 where
  pub mode_is : state.mode ≡ mode_number mode
  pub short : state.numbers.taken ≤ MAX_MESSAGE
  pub rand_is : take n sig ≡ take n state.numbers.rand
  pub ends : EndsIn Z (take n state.numbers.seed) (take n state.numbers.root) sig

-- nothing of a key, a signature and a message stands there
pub record IsBlank (numbers : VerifierNumbers) : Type 0 where
  pub seed_is : numbers.seed ≡ replicate 32 0
  pub root_is : numbers.root ≡ replicate 32 0
  pub rand_is : numbers.rand ≡ replicate 32 0
  pub taken_is : numbers.taken ≡ 0
  pub front_is : numbers.front ≡ new_hashes
  pub tail_is : numbers.tail ≡ new_hashes

-- H_msg and what becomes of the pieces, taken up again, stand for the same.
pub record IsResumed (n : ℕ) (digests : List ℕ → List ℕ → List ℕ → List ℕ → Type 0) (tail : Tail)
    (held seed root : List ℕ) (mode : Mode) (key context rand message : List ℕ) : Type 0 where
  pub seed_is : seed ≡ part n key 0
  pub root_is : root ≡ part n key 1
  pub rand_is : held ≡ rand
  pub context_fits : length context ≤ MAX_CONTEXT
  pub stands : StandsAfter (digests rand seed root) tail (head_of mode context ++ context) message
