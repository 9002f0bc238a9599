use Rattle.std.proofs.Common.{ℕ, List, arith, ap, slice_index, subst, sym, ◌∙◌}
use Rattle.std.proofs.lemmas.List.{get_or-map}
use Rattle.std.proofs.lemmas.Simd.{Each1-get_or}
use Rattle.hex.specs.Hex.{hex_digit_value}
use Rattle.line_serve.proofs.DigitLanes.{value, values_of, value_right}
use Rattle.line_serve.proofs.DigitPairs.{HasValue}
use Rattle.line_serve.proofs.digits.digit_values.Goals as goal

pub returns : goal.returns
returns c = λ j low.
    let xs = c.args.bytes in
    let byte = Each1-get_or _ xs j 0 (omega (arith, c.fits-bytes.0, low)) c.fits-bytes.1 in
    let here = get_or-map value xs j 0 0 (omega (arith, c.fits-bytes.0, low)) in
    let at = ap (λ (l : List ℕ). slice_index l j) (values_of 16 xs c.fits-bytes.0) ∙ here in
    subst (λ (v : ℕ). HasValue (hex_digit_value (slice_index xs j)) v) (sym at) (value_right (slice_index xs j) byte.fits)
