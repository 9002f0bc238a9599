use Rattle.std.proofs.Common.{◌≡◌, length, take}
use Rattle.hmac_sha256.specs.Hmac.{masked}
use Rattle.hmac_sha256.proofs.mac.started.Given as goal

abbrev pub invariant-each_byte : goal.invariant-each_byte
invariant-each_byte l = (length l.block ≡ 64) × (take l.i l.block ≡ masked l.mask (take l.i l.key_block))
