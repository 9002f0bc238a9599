-- What is signed for a message with a context: the message as it is (FIPS 205, algorithm 22), or
-- its digest with the identifier of the hash function (algorithm 23).
use Rattle.std.specs.Prelude.{ℕ, List, [], ◌∷◌, ◌++◌, length, take}
use Rattle.sha256_lanes.specs.Sha256.{sha256}
use Rattle.sha2.specs.Sha512.{sha512}
use Rattle.slh_frames.specs.declared.frame.Mode.{Mode}
use Rattle.slh_frames.specs.declared.frame.Mode.TheVariants.{Pure, Sha256, Sha512}

-- the byte 0, which says that the message is signed as it is, and the number of the context's bytes
abbrev pub frame_head : List ℕ → List ℕ
frame_head context = 0 ∷ length context ∷ []

-- what is signed of a message as it is, for a context of at most 255 bytes
abbrev pub frame : List ℕ → List ℕ → List ℕ
frame context message = frame_head context ++ context ++ message

-- the object identifiers of SHA-256 and SHA-512, as algorithm 23 writes them
abbrev pub sha256_identifier : List ℕ
sha256_identifier =
    0x06 ∷ 0x09 ∷ 0x60 ∷ 0x86 ∷ 0x48 ∷ 0x01 ∷ 0x65 ∷ 0x03 ∷ 0x04 ∷ 0x02 ∷ 0x01 ∷ []

abbrev pub sha512_identifier : List ℕ
sha512_identifier =
    0x06 ∷ 0x09 ∷ 0x60 ∷ 0x86 ∷ 0x48 ∷ 0x01 ∷ 0x65 ∷ 0x03 ∷ 0x04 ∷ 0x02 ∷ 0x03 ∷ []

-- the two bytes before the context, of which the first says whether a digest is signed
abbrev pub head_of : Mode → List ℕ → List ℕ
head_of Pure context = frame_head context
head_of Sha256 context = 1 ∷ length context ∷ []
head_of Sha512 context = 1 ∷ length context ∷ []

-- what stands after the context
abbrev pub tail_of : Mode → List ℕ → List ℕ
tail_of Pure message = message
tail_of Sha256 message = sha256_identifier ++ sha256 message
tail_of Sha512 message = sha512_identifier ++ sha512 message

-- what is signed in a mode, for a context of at most 255 bytes
abbrev pub mode_frame : Mode → List ℕ → List ℕ → List ℕ
mode_frame mode context message = head_of mode context ++ context ++ tail_of mode message

-- what contracts see of a frame: three byte strings, which joined are what is signed
pub record Framed : Type 0 where
  pub head : List ℕ
  pub ctx : List ℕ
  pub tail : List ℕ

-- the tail of a frame that keeps the message, or an identifier and a digest
abbrev pub kept_tail : Mode → List ℕ → List ℕ → List ℕ
kept_tail Pure message hashed = message
kept_tail Sha256 message hashed = take 43 hashed
kept_tail Sha512 message hashed = hashed
