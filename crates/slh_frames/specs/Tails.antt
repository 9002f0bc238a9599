-- What becomes of a message's pieces.
use Rattle.std.specs.Prelude.{ℕ, List, [], ◌++◌}
use Rattle.hmac_sha256.specs.Hash.{StandsFor, absorbed_bytes}
use Rattle.sha512_lanes.specs.Hash.{StandsFor as StandsFor512}
use Rattle.slh_frames.specs.declared.frame.Mode.{Mode}
use Rattle.slh_frames.specs.declared.frame.Mode.TheVariants.{Pure, Sha256, Sha512}
use Rattle.slh_frames.specs.declared.pieces.Tail.{Tail}
use Rattle.slh_frames.specs.declared.pieces.Tail.TheVariants.{Whole, By256, By512}

-- the mode in which such a message is signed
abbrev pub mode_of : Tail → Mode
mode_of Whole = Pure
mode_of (By256 hash) = Sha256
mode_of (By512 hash) = Sha512

-- how many bytes a hash of SHA-256 has absorbed, where there is one
abbrev pub hashed_count : Tail → ℕ
hashed_count Whole = 0
hashed_count (By256 hash) = absorbed_bytes hash
hashed_count (By512 hash) = 0

-- the hash, where there is one, has absorbed the message
abbrev pub IsTailOf : Tail → List ℕ → Type 0
IsTailOf Whole m = Unit {0}
IsTailOf (By256 hash) m = StandsFor hash m
IsTailOf (By512 hash) m = StandsFor512 hash m

-- what of the message is absorbed as it is
abbrev pub passed_on : Tail → List ℕ → List ℕ
passed_on Whole m = m
passed_on (By256 hash) m = []
passed_on (By512 hash) m = []

-- A state and what becomes of the pieces stand for a message after a front: the state has absorbed
-- the front and what is passed on, the hash the message.
pub record StandsAfter (absorbed : List ℕ → Type 0) (tail : Tail) (front m : List ℕ) : Type 0 where
  pub tail_is : IsTailOf tail m
  pub stands : absorbed (front ++ passed_on tail m)

-- the modes in which a digest is signed
abbrev pub HasDigest : Mode → Type 0
HasDigest Pure = ⊥
HasDigest Sha256 = Unit {0}
HasDigest Sha512 = Unit {0}
