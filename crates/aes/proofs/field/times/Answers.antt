use Rattle.std.proofs.Common.{◌≡◌, ◌+◌, ◌-◌, suc, arith, refl, bit_xor, ap, ◌∙◌}
use Rattle.aes.specs.Field.{times_bits}
use Rattle.aes.proofs.Multiplying.{one_bit, at_last}
use Rattle.aes.proofs.field.times.Goals as goal

pub bits-init : goal.bits-init
bits-init c = refl

pub bits-preserved : goal.bits-preserved
bits-preserved c =
    let now : 8 - c.bits.i ≡ suc (8 - (c.bits.i + 1)) = omega arith in
    rw c.times_x-shifted.ensures
    (one_bit _ c.bits.sum c.bits.shifted c.bits.rest (8 - (c.bits.i + 1))
    (c.bits.invariant ∙ ap (λ n. bit_xor c.bits.sum (times_bits n c.bits.shifted c.bits.rest)) now))

pub returns : goal.returns
returns c =
    let none : 8 - c.bits.i ≡ 0 = omega arith in
    at_last _ c.bits.sum c.bits.shifted c.bits.rest (8 - c.bits.i) none c.bits.invariant
