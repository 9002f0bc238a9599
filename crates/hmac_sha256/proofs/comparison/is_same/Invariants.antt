use Rattle.std.proofs.Common.{◌≡◌, take}
use Rattle.hmac_sha256.proofs.comparison.is_same.Given as goal

abbrev pub invariant-each_byte : goal.invariant-each_byte
invariant-each_byte l = record {
  same : l.difference ≡ 0 → take l.i l.x ≡ take l.i l.y;
  none : l.x ≡ l.y → l.difference ≡ 0;
}
