-- The law that two definitions of SHA-256 (FIPS 180-4) are one function.
--
-- What is apart, ours and then theirs (sections are the standard's):
--   5.1.1  the zeros of the padding: (64 - (n + 9) % 64) % 64, (119 - n % 64) % 64
--   5.2.1  a word of a block: a sum of four bytes by their places, `from_be_bytes` of a list
--   6.2.2  the schedule: 64 words from none on, by a case at 16; the 16 of the block and then 48
--   6.2.2  the rounds: a fold over pairs of a constant and a word; a recursion on their number
--   6.2    the blocks: the first and then the rest, by `drop`; all but the last, and then it
--   6.2    the digest: the bytes of all words, by `flat_map`; of the first eight, by their indices
--
-- What is the same but for names and the order of a product, so that the law says nothing of it:
--   3.2    the sum of words
--   4.1.2  Ch, Maj and the four sigmas; 4.2.2 the constants; 5.3.3 the initial hash value
--   5.1.1  the byte 0x80, and the length in bits modulo 2^64 as eight bytes
--   6.2.2  a word from 16 on, by the words before it; one round; the sums that end a block
--
-- Both stand on the same words of the library for shifts, rotations and the bytes of a number.
use Rattle.std.specs.Prelude.{◌≡◌, ℕ, List}
use Rattle.sha256_lanes.specs.Sha256.{sha256 as our_sha256}
use Rattle.sha2.specs.Sha256.{sha256 as their_sha256}

-- every message has one digest under both definitions, of any length and of any numbers
abbrev pub DefinitionsAgree : Type 0
DefinitionsAgree = (m : List ℕ) → our_sha256 m ≡ their_sha256 m
