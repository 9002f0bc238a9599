use Rattle.std.proofs.Common.{◌≡◌, length, replicate, refl, arith}
use Rattle.std.proofs.lemmas.Bool.Decides.{Decides-eqb}
use Rattle.slh_bytes.proofs.LogReading.{digest_found, not_decoded}
use Rattle.slh_bytes.proofs.log_proofs.digest_of.Goals as goal

pub returns-in_default : goal.returns-in_default
returns-in_default c =
    let line = c.args.line.now in
    let size : length line ≡ 44 = omega (arith, c.div_ceil.ensures, c.if-line-div_ceil.false) in
    not_decoded line (replicate 32 0) c.decode_slice.result c.in_default.field-0 size refl c.decode_slice.ensures.value c.in_default.is

pub returns-then-len-eq-DIGEST_LEN : goal.returns-then-len-eq-DIGEST_LEN
returns-then-len-eq-DIGEST_LEN c =
    let line = c.args.line.now in
    let size : length line ≡ 44 = omega (arith, c.div_ceil.ensures, c.if-line-div_ceil.false) in
    digest_found line (replicate 32 0) c.decode_slice.new.output c.decode_slice.result c.in-Ok.len size refl c.decode_slice.ensures.value c.in-Ok.is
    c.decode_slice.auto.output c.in-Ok.ensures.written ((Decides-eqb c.in-Ok.len 32).1 c.if-len-eq-DIGEST_LEN.true)
