-- Decimal numbers are read back from their digits.
use Rattle.std.proofs.Common.{◌≡◌, ℕ, ◌+◌, ◌-◌, ◌*◌, ◌^◌, ◌<◌, ◌≤◌, List, [], ◌∷◌, length, true, Some, refl, ◌∙◌, ap, arith, rules}
use Rattle.std.specs.Prelude.{decimal}
use Rattle.std.specs.Int.{IsInRange}
use Rattle.std.specs.List.{AllByRecursion}
use Rattle.std.proofs.lemmas.Fmt.{decimal_nonempty, digits_decimal, digits_value-decimal, length-decimal-le}
use Rattle.std.proofs.lemmas.Str.Parse.{IsNumeralModel, numerals_by_fold}
use Rattle.std.proofs.lemmas.Bool.{le-leb, lt-ltb}
use Rattle.std.proofs.lemmas.Bool.Decides.{nat_tests}
use Rattle.line_serve.specs.Decimals.{is_digit, number_value, read_digits}

-- digits
abbrev pub AreDigits : List ℕ → Type 0
AreDigits ds = AllByRecursion (λ c. IsInRange 48 57 c) ds

-- the number that digits go on to
abbrev read_on : ℕ → List ℕ → ℕ
read_on n [] = n
read_on n (c ∷ cs) = read_on (n * 10 + (c - 48)) cs

own : IsNumeralModel AreDigits (read_on 0)
own = numerals_by_fold _ (search rules) read_on (search rules)

read_grows : (n : ℕ) (ds : List ℕ) → n ≤ read_on n ds
read_grows n [] = omega arith
read_grows n (c ∷ cs) = omega (arith, read_grows (n * 10 + (c - 48)) cs)

digit_true : (c : ℕ) → IsInRange 48 57 c → is_digit c ≡ true
digit_true c is = grind (arith, nat_tests)

digits_read : (limit n : ℕ) (ds : List ℕ) → AreDigits ds → read_on n ds < limit → read_digits limit n ds ≡ Some (read_on n ds)
digits_read limit n [] are small = refl
digits_read limit n (c ∷ cs) are small =
    let next = n * 10 + (c - 48) in
    let here : next < limit = omega (arith, small, read_grows next cs) in
    rw (digit_true c are.0, lt-ltb _ _ here) (digits_read limit next cs are.1 small)

-- a number is read back from its digits
pub number_back : (n : ℕ) → n < 2 ^ 32 → number_value (decimal n) ≡ Some n
number_back n small =
    let long : n < 2 ^ 64 = omega arith in
    let some : 1 ≤ length (decimal n) = decimal_nonempty n long in
    let few : length (decimal n) ≤ 10 = length-decimal-le 10 n (omega arith) (omega arith) long in
    let value : read_on 0 (decimal n) ≡ n = digits_value-decimal own n long in
    rw (le-leb 1 (length (decimal n)) some, le-leb (length (decimal n)) 10 few)
    (digits_read (2 ^ 32) 0 (decimal n) (digits_decimal own n long) (rw value small) ∙ ap Some value)

-- the digits of a number are digits
pub decimal_digits : (n : ℕ) → n < 2 ^ 64 → AreDigits (decimal n)
decimal_digits n long = digits_decimal own n long
