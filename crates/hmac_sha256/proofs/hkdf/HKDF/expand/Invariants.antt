use Rattle.std.proofs.Common.{◌≡◌, ◌*◌, length, min, take}
use Rattle.hmac_sha256.specs.Hkdf.{output_blocks}
use Rattle.hmac_sha256.proofs.hkdf.HKDF.expand.Given as goal

-- as many blocks as there were steps are written, as far as the output goes
abbrev pub invariant-each_step : goal.invariant-each_step
invariant-each_step l = record {
  len : length l.out ≡ l.len;
  filled : take (min l.len (32 * l.i)) l.out ≡ take l.len (output_blocks l.prk l.info l.i);
}
