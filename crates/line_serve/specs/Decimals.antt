-- Decimal numbers.
use Rattle.std.specs.Prelude.{ℕ, ◌+◌, ◌-◌, ◌*◌, ◌^◌, List, [], ◌∷◌, length, Option, None, Some}
use Rattle.std.specs.Prelude.{Bool, ◌&&◌, nat_le, nat_lt, if◌then◌else◌}

-- a decimal digit
abbrev pub is_digit : ℕ → Bool
is_digit c = nat_le 48 c && nat_le c 57

-- the number that digits go on to from a number, while it stays below a limit
abbrev pub read_digits : ℕ → ℕ → List ℕ → Option ℕ
read_digits limit number [] = Some number
read_digits limit number (c ∷ later) =
    if is_digit c then
    if nat_lt (number * 10 + (c - 48)) limit
    then read_digits limit (number * 10 + (c - 48)) later else None
    else None

-- the number of 1 to so many decimal digits, where it is below a limit
abbrev pub decimal_value : ℕ → ℕ → List ℕ → Option ℕ
decimal_value digits limit text =
    if nat_le 1 (length text) && nat_le (length text) digits then read_digits limit 0 text else None

-- a number on a line is 1 to 10 decimal digits with a value below 2^32
abbrev pub number_value : List ℕ → Option ℕ
number_value text = decimal_value 10 (2 ^ 32) text
