use Rattle.std.proofs.Common.{◌≡◌, ◌*◌, length, take}
use Rattle.sha256_lanes.specs.Sha256.{word_bytes}
use Rattle.sha256_lanes.proofs.blocks.word_bytes.Given as goal

abbrev pub invariant-each_word : goal.invariant-each_word
invariant-each_word l = (length l.bytes ≡ 32) × (take (4 * l.i) l.bytes ≡ word_bytes (take l.i l.words))
