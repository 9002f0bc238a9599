-- The lemmas of words, at 32 bits, and words of halves of two others.
use Rattle.std.proofs.Common.{◌≡◌, ℕ, ◌+◌, ◌*◌, ◌/◌, ◌%◌, ◌^◌, ◌<◌, bit_and, arith}
use Rattle.std.proofs.lemmas.Nat.{and_mask}
use Rattle.std.proofs.lemmas.Nat.Bits.{and_high_mask}
use Rattle.std.specs.Int.{rotate_right, w32}
use Rattle.std.specs.Int.Bits.{or_shifted_r}
use Rattle.sha256_lanes.specs.Eight.{front_word, middle_word}
use Rattle.sha256_lanes.specs.Sha256.{sum32}
use Rattle.word_lanes.proofs.Words
use Rattle.word_lanes.proofs.Words.{ChooseShort, TurnedThree, TurnedTwo}

pub choose_short : ChooseShort w32
choose_short = Words.choose_short w32

pub turned_two : TurnedTwo 32
turned_two = Words.turned_two 32

pub turned_three : TurnedThree 32
turned_three = Words.turned_three 32

-- the last half of a word, and the first half of the next
pub halves_meet : (x y : ℕ) → x < 2 ^ 32 → y < 2 ^ 32
    → rotate_right w32 (sum32 (bit_and x 65535) (bit_and y 4294901760)) 16 ≡ middle_word x y
halves_meet x y fits other =
    let low : bit_and x 65535 ≡ x % 2 ^ 16 = and_mask x 16 in
    let high : bit_and y 4294901760 ≡ y / 2 ^ 16 * 2 ^ 16 = and_high_mask 32 16 (omega arith) y other in
    let whole : (x % 2 ^ 16 + y / 2 ^ 16 * 2 ^ 16) % 2 ^ 32 ≡ x % 2 ^ 16 + y / 2 ^ 16 * 2 ^ 16 = omega arith in
    let front : (x % 2 ^ 16 + y / 2 ^ 16 * 2 ^ 16) / 2 ^ 16 ≡ y / 2 ^ 16 = omega arith in
    let back : (x % 2 ^ 16 + y / 2 ^ 16 * 2 ^ 16) * 2 ^ 16 % 2 ^ 32 ≡ x % 2 ^ 16 * 2 ^ 16 = omega arith in
    rw (low, high, whole, front, back) (or_shifted_r (x % 2 ^ 16) 16 (y / 2 ^ 16) (omega arith))

-- the first half of a word, and the first half of another
pub fronts_meet : (x y : ℕ) → x < 2 ^ 32 → y < 2 ^ 32
    → sum32 (bit_and x 4294901760) (y / 2 ^ 16) ≡ front_word x y
fronts_meet x y fits other =
    let high : bit_and x 4294901760 ≡ x / 2 ^ 16 * 2 ^ 16 = and_high_mask 32 16 (omega arith) x fits in
    rw high (omega arith)
