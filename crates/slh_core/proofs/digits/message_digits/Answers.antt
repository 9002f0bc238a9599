use Rattle.std.proofs.Common.{ℕ, ◌≡◌, ◌*◌, ◌∙◌, arith, length, length-append, length-take, refl, sym}
use Rattle.std.proofs.lemmas.List.{length-drop, length-replicate}
use Rattle.slh_core.specs.Digits.{checksum, digits, wots_digits}
use Rattle.slh_core.proofs.DigitSteps.{three_more}
use Rattle.slh_core.proofs.Joins.{take_front}
use Rattle.slh_core.proofs.digits.message_digits.Goals as goal

pub slice_bounds-all-end-2 : goal.slice_bounds-all-end-2
slice_bounds-all-end-2 g c =
    let size : length c.base_2b.new.out ≡ 2 * c.USIZE-len.result = omega (arith, c.base_2b.auto.out, length-take {A = ℕ}) in
    omega (arith, size, length-append {A = ℕ})

pub slice_bounds-checksum_of-end : goal.slice_bounds-checksum_of-end
slice_bounds-checksum_of-end g c =
    let size : length c.base_2b.new.out ≡ 2 * c.USIZE-len.result = omega (arith, c.base_2b.auto.out, length-take {A = ℕ}) in
    rw (take_front (2 * c.USIZE-len.result) c.base_2b.new.out _ size) (sym size)

pub checksum_of-sum-requires-clause-few : goal.checksum_of-sum-requires-clause-few
checksum_of-sum-requires-clause-few g c =
    let size : length c.base_2b.new.out ≡ 2 * c.USIZE-len.result = omega (arith, c.base_2b.auto.out, length-take {A = ℕ}) in
    rw (take_front (2 * c.USIZE-len.result) c.base_2b.new.out _ size) (omega (arith, size, c.USIZE-len.ensures, c.as_slice-bytes.ensures.small))

pub checksum_of-sum-requires-clause-below : goal.checksum_of-sum-requires-clause-below
checksum_of-sum-requires-clause-below g c =
    let size : length c.base_2b.new.out ≡ 2 * c.USIZE-len.result = omega (arith, c.base_2b.auto.out, length-take {A = ℕ}) in
    rw (take_front (2 * c.USIZE-len.result) c.base_2b.new.out _ size) c.base_2b.ensures.below

pub returns : goal.returns
unfolding wots_digits
returns g c =
    let len = 2 * c.USIZE-len.result in
    let made = c.base_2b.new.out in
    let size : length made ≡ len = omega (arith, c.base_2b.auto.out, length-take {A = ℕ}) in
    let row : made ≡ digits c.as_slice-bytes.result.now 4 len = rw (← c.base_2b.auto.out, size) at c.base_2b.ensures.value in
    let sum : c.checksum_of-sum.result ≡ checksum made = rw (take_front len made _ size) at c.checksum_of-sum.ensures in
    rw (← c.USIZE-len.ensures)
    (three_more made _ len _ _ _ size (omega (arith, c.USIZE-len.ensures, c.as_slice-bytes.ensures.small, length-drop {A = ℕ}, length-replicate {A = ℕ}))
    ∙ rw (sum, row, c.as_slice-bytes.ensures.value) refl)
