-- Pairs of hexadecimal digits, by the values of the digits.
use Rattle.std.proofs.Common.{◌≡◌, ℕ, zero, suc, ◌+◌, ◌*◌, ◌<◌, ◌≤◌, ◌==◌, ◌&&◌, nat_lt, Bool, true, inl, inr, List, slice_index, Option, Some, None, Ok, Err, refl, sym, ap, arith}
use Rattle.std.specs.Prelude.{MatchOption}
use Rattle.std.proofs.lemmas.Bool.{and_parts, cases_lt, eqb-true, ltb-true}
use Rattle.hex.specs.Hex.{digit_or_error, hex_digit_value, pair_value, value_at}
use Rattle.hex.specs.declared.error.FromHexError.TheVariants.{InvalidHexCharacter}

-- v is the value of a digit, or 16 where there is none
abbrev pub HasValue : Option ℕ → ℕ → Type 0
HasValue o v = MatchOption o (v ≡ 16) (λ w. (v ≡ w) × (w < 16))

-- whether an entry of a table is the value of the byte at its place, which computes
abbrev pub is_value : ℕ → Option ℕ → Bool
is_value v (Some w) = v == w && nat_lt w 16
is_value v None = v == 16

abbrev are_values : List ℕ → ℕ → Bool
are_values t zero = true
are_values t (suc n) = is_value (slice_index t n) (hex_digit_value n) && are_values t n

are_values-at : (t : List ℕ) (n k : ℕ) → are_values t n ≡ true → k < n → is_value (slice_index t k) (hex_digit_value k) ≡ true
are_values-at t zero k h low = absurd (omega arith)
are_values-at t (suc n) k h low =
    let parts = and_parts (is_value (slice_index t n) (hex_digit_value n)) (are_values t n) h in
    elim (cases_lt k n) [
      | inl below ↦ are_values-at t n k parts.1 below
      | inr top ↦
          let e : k ≡ n = omega arith in
          rw e parts.0
    ]

pub has_value : (v : ℕ) (o : Option ℕ) → is_value v o ≡ true → HasValue o v
has_value v (Some w) h =
    let parts = and_parts (v == w) (nat_lt w 16) h in
    (eqb-true v w parts.0, ltb-true w 16 parts.1)
has_value v None h = eqb-true v 16 h

-- a table that passes the test
pub value_in_table : (t : List ℕ) (c : ℕ) → are_values t 256 ≡ true → c < 256 → HasValue (hex_digit_value c) (slice_index t c)
value_in_table t c h low = has_value (slice_index t c) (hex_digit_value c) (are_values-at t 256 c h low)

digit_read : (c i v : ℕ) (o : Option ℕ) → HasValue o v → v ≤ 15 → digit_or_error c i o ≡ Ok v
digit_read c i v (Some w) has low = ap Ok (sym has.0)
digit_read c i v None has low = absurd (omega arith)

digit_refused : (c i v : ℕ) (o : Option ℕ) → HasValue o v → 15 < v → digit_or_error c i o ≡ Err (InvalidHexCharacter c i)
digit_refused c i v (Some w) has high = absurd (omega (arith, has.0, has.1))
digit_refused c i v None has high = refl

-- a pair that reads
pub pair_read : (a b i high low : ℕ) → HasValue (hex_digit_value a) high → HasValue (hex_digit_value b) low → high ≤ 15 → low ≤ 15 → pair_value a b i ≡ Ok (high * 16 + low)
pair_read a b i high low has_a has_b h l =
    let first : value_at a i ≡ Ok high = digit_read a i high (hex_digit_value a) has_a h in
    let second : value_at b (i + 1) ≡ Ok low = digit_read b (i + 1) low (hex_digit_value b) has_b l in
    rw (first, second) refl

-- a pair whose first digit is none, and one whose second is none
pub first_refused : (a b i high : ℕ) → HasValue (hex_digit_value a) high → 15 < high → pair_value a b i ≡ Err (InvalidHexCharacter a i)
first_refused a b i high has h =
    let first : value_at a i ≡ Err (InvalidHexCharacter a i) = digit_refused a i high (hex_digit_value a) has h in
    rw first refl

pub second_refused : (a b i high low : ℕ) → HasValue (hex_digit_value a) high → HasValue (hex_digit_value b) low → high ≤ 15 → 15 < low → pair_value a b i ≡ Err (InvalidHexCharacter b (i + 1))
second_refused a b i high low has_a has_b h l =
    let first : value_at a i ≡ Ok high = digit_read a i high (hex_digit_value a) has_a h in
    let second : value_at b (i + 1) ≡ Err (InvalidHexCharacter b (i + 1)) = digit_refused b (i + 1) low (hex_digit_value b) has_b l in
    rw (first, second) refl
