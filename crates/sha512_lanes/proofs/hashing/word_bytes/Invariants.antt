use Rattle.std.proofs.Common.{◌≡◌, ◌*◌, length, take}
use Rattle.sha2.specs.Sha512.{digest_bytes}
use Rattle.sha512_lanes.proofs.hashing.word_bytes.Given as goal

-- the words so far
abbrev pub invariant-each_word : goal.invariant-each_word
invariant-each_word l = (length l.bytes ≡ 64) × (take (8 * l.i) l.bytes ≡ digest_bytes l.words l.i)
