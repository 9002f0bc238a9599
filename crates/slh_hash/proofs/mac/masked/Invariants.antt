use Rattle.std.proofs.Common.{◌≡◌, length, take}
use Rattle.hmac_sha256.specs.Hmac.{masked}
use Rattle.slh_hash.proofs.mac.masked.Given as goal

-- the first i bytes are masked
abbrev pub invariant-loop-i : goal.invariant-loop-i
invariant-loop-i l = (length l.out ≡ 128) × (take l.i l.out ≡ masked l.mask (take l.i l.block))
