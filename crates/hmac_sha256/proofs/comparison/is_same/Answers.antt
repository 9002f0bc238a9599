use Rattle.std.proofs.Common.{◌≡◌, ℕ, bit_or, bit_xor, slice_index, refl, ap, arith}
use Rattle.std.proofs.lemmas.Grind.{common_steps}
use Rattle.std.proofs.lemmas.List.{take_more_same}
use Rattle.std.proofs.lemmas.Nat.Bits.{bit_at-lt, bit_at-zero, bit_at_or, bit_at_xor, same_from_bits}
use Rattle.std.specs.Int.{bit_at}
use Rattle.std.specs.Int.Bits.{xor_self}
use Rattle.hmac_sha256.proofs.comparison.is_same.Goals as goal

or_left : (a b : ℕ) → bit_or a b ≡ 0 → a ≡ 0
or_left a b none =
    same_from_bits a 0 (λ i. omega (arith, bit_at_or a b i, ap (λ n. bit_at n i) none, bit_at-zero i))

or_right : (a b : ℕ) → bit_or a b ≡ 0 → b ≡ 0
or_right a b none =
    same_from_bits b 0 (λ i. omega (arith, bit_at_or a b i, ap (λ n. bit_at n i) none, bit_at-zero i))

xor_none : (a b : ℕ) → bit_xor a b ≡ 0 → a ≡ b
xor_none a b none =
    same_from_bits a b (λ i. omega (arith, bit_at_xor a b i, ap (λ n. bit_at n i) none, bit_at-zero i, bit_at-lt a i, bit_at-lt b i))

pub each_byte-preserved : goal.each_byte-preserved
each_byte-preserved c =
    let i = c.each_byte.i in
    let before = c.each_byte.invariant in
    record {
      same = λ none.
          take_more_same c.args.x.now c.args.y.now i 0 (omega arith) (omega arith) (before.same (or_left _ _ none)) (xor_none _ _ (or_right _ _ none));
      none = λ same.
          rw (before.none same, same, xor_self (slice_index c.args.y.now i)) refl;
    }

pub returns-then-x-y : goal.returns-then-x-y
returns-then-x-y c = grind (arith, common_steps)

pub returns : goal.returns
returns c = grind (arith, common_steps)
