-- Byte strings: their numbers, and their parts (FIPS 205, section 4.4).
use Rattle.std.specs.Prelude.{ℕ, zero, suc, ◌+◌, ◌*◌, List, [], ◌++◌, slice_range}
use Rattle.std.specs.Int.{bytes_high_first}
use Rattle.std.specs.Int.Digits.{number_from_digits}

-- the number of a byte string, the highest byte first; no bytes stand for 0 (algorithm 2)
abbrev pub number_of : List ℕ → ℕ
number_of bytes = number_from_digits 256 bytes

-- v as n bytes, the highest first (algorithm 3)
abbrev pub big_endian : ℕ → ℕ → List ℕ
big_endian v n = bytes_high_first n v

-- f 0 ++ f 1 ++ .. ++ f (k - 1)
unfoldable pub joined : (ℕ → List ℕ) → ℕ → List ℕ
joined f zero = []
joined f (suc k) = joined f k ++ f k

-- part number c of parts of n bytes each
abbrev pub part : ℕ → List ℕ → ℕ → List ℕ
part n bytes c = slice_range bytes (c * n) ((c + 1) * n)
