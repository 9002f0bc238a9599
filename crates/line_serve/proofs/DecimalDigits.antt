-- Digits that are read one after the other.
use Rattle.std.proofs.Common.{◌≡◌, ℕ, ◌+◌, ◌-◌, ◌*◌, ◌<◌, ◌≤◌, List, length, drop, arith, refl, None, Some, true, false}
use Rattle.std.specs.Prelude.{slice_index}
use Rattle.std.proofs.lemmas.Bool.{lt-ltb, le-ltb}
use Rattle.std.proofs.lemmas.List.{drop_more, drop_all}
use Rattle.std.proofs.lemmas.Bool.Decides.{nat_tests}
use Rattle.line_serve.specs.Decimals.{is_digit, read_digits}

digit_true : (c : ℕ) → 48 ≤ c → c ≤ 57 → is_digit c ≡ true
digit_true c low high = grind (arith, nat_tests)

digit_false_low : (c : ℕ) → c < 48 → is_digit c ≡ false
digit_false_low c low = grind (arith, nat_tests)

digit_false_high : (c : ℕ) → 57 < c → is_digit c ≡ false
digit_false_high c high = grind (arith, nat_tests)

pub goes_on : (limit number : ℕ) (text : List ℕ) (i : ℕ) → i < length text → 48 ≤ slice_index text i → slice_index text i ≤ 57 → number * 10 + (slice_index text i - 48) < limit
    → read_digits limit number (drop i text) ≡ read_digits limit (number * 10 + (slice_index text i - 48)) (drop (i + 1) text)
goes_on limit number text i below low high small =
    rw (drop_more text i 0 below, digit_true (slice_index text i) low high, lt-ltb _ _ small) refl

pub below_digits : (limit number : ℕ) (text : List ℕ) (i : ℕ) → i < length text → slice_index text i < 48 → read_digits limit number (drop i text) ≡ None
below_digits limit number text i below low =
    rw (drop_more text i 0 below, digit_false_low (slice_index text i) low) refl

pub above_digits : (limit number : ℕ) (text : List ℕ) (i : ℕ) → i < length text → 57 < slice_index text i → read_digits limit number (drop i text) ≡ None
above_digits limit number text i below high =
    rw (drop_more text i 0 below, digit_false_high (slice_index text i) high) refl

pub too_big : (limit number : ℕ) (text : List ℕ) (i : ℕ) → i < length text → 48 ≤ slice_index text i → slice_index text i ≤ 57 → limit ≤ number * 10 + (slice_index text i - 48)
    → read_digits limit number (drop i text) ≡ None
too_big limit number text i below low high big =
    rw (drop_more text i 0 below, digit_true (slice_index text i) low high, le-ltb _ _ big) refl

pub all_read : (limit number : ℕ) (text : List ℕ) (i : ℕ) → length text ≤ i → read_digits limit number (drop i text) ≡ Some number
all_read limit number text i past = rw (drop_all i text past) refl
