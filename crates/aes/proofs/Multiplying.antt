-- A product bit by bit.
use Rattle.std.proofs.Common.{◌≡◌, ℕ, suc, ◌*◌, ◌/◌, ◌%◌, bit_and, bit_xor, sym, ap, ◌∙◌, arith, if◌then◌else◌}
use Rattle.std.specs.Bool.{◌==◌}
use Rattle.std.specs.Int.Bits.{xor_assoc, xor_zero_r}
use Rattle.std.proofs.lemmas.Grind.{common_steps}
use Rattle.aes.specs.Field.{times_x, times_bits}

pub bit_product : (a b : ℕ) → a * bit_and b 1 ≡ (if b % 2 == 1 then a else 0)
bit_product a b = grind (arith, common_steps)

pub one_bit : (whole sum a b left : ℕ) → whole ≡ bit_xor sum (times_bits (suc left) a b)
    → whole ≡ bit_xor (bit_xor sum (a * bit_and b 1)) (times_bits left (times_x a) (b / 2))
unfolding times_bits
one_bit whole sum a b left e =
    e ∙ ap (λ t. bit_xor sum (bit_xor t (times_bits left (times_x a) (b / 2)))) (sym (bit_product a b))
    ∙ sym (xor_assoc sum (a * bit_and b 1) (times_bits left (times_x a) (b / 2)))

pub at_last : (whole sum a b left : ℕ) → left ≡ 0 → whole ≡ bit_xor sum (times_bits left a b) → sum ≡ whole
unfolding times_bits
at_last whole sum a b left none e =
    sym (e ∙ ap (λ n. bit_xor sum (times_bits n a b)) none ∙ xor_zero_r sum)
