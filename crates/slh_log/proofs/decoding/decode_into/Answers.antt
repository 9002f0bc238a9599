use Rattle.std.proofs.lemmas.Grind.{common_steps}
use Rattle.std.proofs.Common.{◌≡◌, length, arith}
use Rattle.base64.specs.Engines.{standard}
use Rattle.base64.specs.GeneralPurpose.{encoded_size_of}
use Rattle.slh_log.proofs.Symbols.{filled}
use Rattle.slh_log.proofs.decoding.decode_into.Goals as goal

pub returns-in-Ok : goal.returns-in-Ok
returns-in-Ok c =
    let line = c.args.line.now in
    let old = c.args.out.now in
    let size : length line ≡ encoded_size_of standard (length old) = omega (arith, c.div_ceil.ensures, c.if-line-div_ceil.false) in
    filled line old c.decode_slice.new.output c.decode_slice.result c.in-Ok.len size c.decode_slice.ensures.value c.in-Ok.is
    c.decode_slice.auto.output c.in-Ok.ensures.written

pub returns-then-line-div_ceil : goal.returns-then-line-div_ceil
returns-then-line-div_ceil c = grind (arith, common_steps)
