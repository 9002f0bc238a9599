-- Digits cut from the bits of a byte string (FIPS 205, algorithm 4), and those of a message.
use Rattle.std.specs.Prelude.{ℕ, zero, suc, ◌+◌, ◌-◌, ◌*◌, ◌/◌, ◌%◌, ◌^◌, ◌<◌}
use Rattle.std.specs.Prelude.{List, [], ◌∷◌, ◌++◌, take, sum_by, slice_index}
use Rattle.slh_core.specs.Bytes.{number_of}
use Rattle.slh_core.specs.Parameters.{bytes_for, chain_count}

-- digit i of c digits of b bits: the front bytes are one number, from which it is cut
unfoldable pub digit : List ℕ → ℕ → ℕ → ℕ → ℕ
digit x b c i =
    let q = bytes_for (b * c) in number_of (take q x) / 2 ^ (8 * q - b * (i + 1)) % 2 ^ b

-- f 0, f 1, .., f (k - 1)
unfoldable pub listed : (ℕ → ℕ) → ℕ → List ℕ
listed f zero = []
listed f (suc k) = listed f k ++ f k ∷ []

-- all c digits
abbrev pub digits : List ℕ → ℕ → ℕ → List ℕ
digits x b c = listed (digit x b c) c

-- the sum of what each digit lacks of fifteen
abbrev pub checksum : List ℕ → ℕ
checksum ds = sum_by (λ d. 15 - d) ds

-- the digits that a key pair signs of a message of n bytes: its 2n hexadecimal digits, and the
-- three of their checksum (FIPS 205, algorithms 7 and 8)
unfoldable pub wots_digits : ℕ → List ℕ → List ℕ
wots_digits n m =
    let ds = digits m 4 (2 * n) in
    let sum = checksum ds in
    ds ++ sum / 256 % 16 ∷ sum / 16 % 16 ∷ sum % 16 ∷ []

-- some digit of the first message is below the second's
abbrev pub IsBelowSomewhere : ℕ → List ℕ → List ℕ → Type 0
IsBelowSomewhere n x y =
    (c : ℕ) × (c < chain_count n)
    × (slice_index (wots_digits n x) c < slice_index (wots_digits n y) c)
