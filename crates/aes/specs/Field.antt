-- The bytes of AES as elements of GF(2^8) (FIPS 197, section 4), and the substitution box. A byte
-- is a number below 256, its bit k the coefficient of x^k. Section numbers are the standard's.
use Rattle.std.specs.Prelude.{ℕ, zero, suc, ◌*◌, ◌-◌, ◌/◌, ◌%◌, nat_lt, bit_xor, ◌==◌}
use Rattle.std.specs.Prelude.{if◌then◌else◌}
use Rattle.std.specs.Int.{w8, rotate_left}

-- the product of a byte and x: a shift, and where that gives an x^8, the sum with the modulus
-- x^8 + x^4 + x^3 + x + 1, whose lower bits are 0x1b (4.2, XTIMES)
abbrev pub times_x : ℕ → ℕ
times_x b = if nat_lt b 128 then 2 * b else bit_xor (2 * b - 256) 0x1b

-- the product of a and the n lower bits of b: the sum of a's products with each power of x that b
-- has (4.2)
unfoldable pub times_bits : ℕ → ℕ → ℕ → ℕ
times_bits zero a b = 0
times_bits (suc n) a b = bit_xor (if b % 2 == 1 then a else 0) (times_bits n (times_x a) (b / 2))

-- the product of two bytes
abbrev pub times : ℕ → ℕ → ℕ
times a b = times_bits 8 a b

-- the power of a byte
unfoldable pub power : ℕ → ℕ → ℕ
power a zero = 1
power a (suc n) = times (power a n) a

-- the inverse of a byte, or 0 for 0: the power of 254 (4.4)
abbrev pub inverse : ℕ → ℕ
inverse b = power b 254

-- the affine transformation over the bits: bit k becomes the sum of bits k, k + 4, k + 5, k + 6 and
-- k + 7, counted modulo 8, and of bit k of 0x63 (5.1.1)
abbrev pub affine : ℕ → ℕ
affine b =
    bit_xor (bit_xor (bit_xor (bit_xor (bit_xor b (rotate_left w8 b 1)) (rotate_left w8 b 2))
    (rotate_left w8 b 3)) (rotate_left w8 b 4)) 0x63

-- the substitution box (5.1.1, SBOX)
unfoldable pub s_box : ℕ → ℕ
s_box b = affine (inverse b)

-- the affine transformation undone: bit k becomes the sum of bits k + 2, k + 5 and k + 7, counted
-- modulo 8, and of bit k of 0x05
abbrev pub inverse_affine : ℕ → ℕ
inverse_affine b =
    bit_xor (bit_xor (bit_xor (rotate_left w8 b 1) (rotate_left w8 b 3)) (rotate_left w8 b 6)) 0x05

-- the inverse of the substitution box (5.3.2, INVSBOX)
unfoldable pub inverse_s_box : ℕ → ℕ
inverse_s_box b = inverse (inverse_affine b)
