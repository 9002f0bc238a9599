use Rattle.std.proofs.Common.{arith, refl, slice_index, ◌∙◌, ◌+◌, ◌*◌}
use Rattle.hex.proofs.Pairs.{decode_step, decode_done, decode_err, decode_sized-pairs}
use Rattle.line_serve.proofs.DigitPairs.{pair_read, first_refused, second_refused}
use Rattle.line_serve.proofs.PairLanes.{all_read}
use Rattle.line_serve.proofs.digits.decode.Goals as goal

pub returns-then-high-gt15 : goal.returns-then-high-gt15
returns-then-high-gt15 c =
    let a = slice_index c.args.digits.now (2 * c.bytes.i) in
    let b = slice_index c.args.digits.now (2 * c.bytes.i + 1) in
    let bad = first_refused a b (2 * c.bytes.i) _ c.digit_value-high.ensures c.if-high-gt15.true in
    let d = decode_sized-pairs _ _ c.if-digits-ne0.false c.if-digits-out.false ∙ decode_err _ c.bytes.out c.bytes.i _ (omega arith) bad c.bytes.invariant in
    rw d refl

pub returns-then-low-gt15 : goal.returns-then-low-gt15
returns-then-low-gt15 c =
    let a = slice_index c.args.digits.now (2 * c.bytes.i) in
    let b = slice_index c.args.digits.now (2 * c.bytes.i + 1) in
    let bad = second_refused a b (2 * c.bytes.i) _ _ c.digit_value-high.ensures c.digit_value-low.ensures c.if-high-gt15.false c.if-low-gt15.true in
    let d = decode_sized-pairs _ _ c.if-digits-ne0.false c.if-digits-out.false ∙ decode_err _ c.bytes.out c.bytes.i _ (omega arith) bad c.bytes.invariant in
    rw d refl

pub bytes-preserved : goal.bytes-preserved
bytes-preserved c =
    let a = slice_index c.args.digits.now (2 * c.bytes.i) in
    let b = slice_index c.args.digits.now (2 * c.bytes.i + 1) in
    decode_step _ _ c.bytes.i _ (omega arith) (omega arith)
    (pair_read a b (2 * c.bytes.i) _ _ c.digit_value-high.ensures c.digit_value-low.ensures c.if-high-gt15.false c.if-low-gt15.false)
    c.bytes.invariant

pub returns : goal.returns
returns c =
    let d = decode_sized-pairs _ _ c.if-digits-ne0.false c.if-digits-out.false ∙ decode_done _ c.bytes.out c.bytes.i (omega arith) (omega arith) c.bytes.invariant in
    rw d (refl, refl)

pub bytes-init : goal.bytes-init
bytes-init c =
    all_read c.args.digits.now c.decode_blocks-done.new.out c.decode_blocks-done.result
    (omega (arith, c.if-digits-ne0.false, c.if-digits-out.false)) (omega (arith, c.decode_blocks-done.ensures.bound)) c.decode_blocks-done.ensures.bytes
