-- Digits come out of a byte string from its front.
use Rattle.std.proofs.Common.{◌≡◌, ℕ, zero, suc, ◌+◌, ◌-◌, ◌*◌, ◌/◌, ◌%◌, ◌^◌, ◌<◌, ◌≤◌, List, [], ◌∷◌, length, take, get_or, arith, refl, subst, add-zero, append_assoc, length-append, inl, inr, slice_set, ◌++◌}
use Rattle.std.proofs.lemmas.Bool.{cases_lt}
use Rattle.std.proofs.lemmas.List.{get_or_append_left, get_or-append_right, get_or_at, length-set, take_more_set}
use Rattle.std.proofs.lemmas.List.Sums.{sum_by-cons}
use Rattle.std.proofs.lemmas.Int.Digits.{number_more}
use Rattle.std.proofs.lemmas.Nat.{mod-pow-add, div-mul-add, mod-mul-add, shr-shr, field_of, mod_below, pow_pos, one_shl, and_mask}
use Rattle.std.proofs.Math.Pow.{pow_mono, mod-mod-pow}
use Rattle.std.specs.Prelude.{bit_and, sum}
use Rattle.std.proofs.Math.Nat.{mul-le-mul_left}
use Rattle.slh_core.specs.Bytes.{number_of}
use Rattle.slh_core.specs.Digits.{digit, listed, digits, checksum, wots_digits}
use Rattle.slh_core.specs.Parameters.{bytes_for, chain_count}
use Rattle.slh_core.proofs.Joins.{take_front}

-- one byte more is held
pub byte_in : (x : List ℕ) (i bits : ℕ) → i < length x → get_or x i 0 < 256 → number_of (take i x) % 2 ^ bits * 256 + get_or x i 0 ≡ number_of (take (i + 1) x) % 2 ^ (bits + 8)
byte_in x i bits h small =
    rw (number_more 256 x i h, mod-pow-add (number_of (take i x) * 256 + get_or x i 0) bits 8, div-mul-add (number_of (take i x)) 256 (get_or x i 0) small, mod-mul-add (number_of (take i x)) 256 (get_or x i 0) small) refl

-- the front of a byte string is the high part of its number
pub number_front : (x : List ℕ) (i d : ℕ) → ((k : ℕ) → get_or x k 0 < 256) → i + d ≤ length x → number_of (take (i + d) x) / 2 ^ (8 * d) ≡ number_of (take i x)
number_front x i zero bytes h = rw add-zero (omega arith)
number_front x i (suc d) bytes h =
    let split : 8 * suc d ≡ 8 + 8 * d = omega arith in
    let last : i + suc d ≡ (i + d) + 1 = omega arith in
    rw (split, ← shr-shr (number_of (take (i + suc d) x)) 8 (8 * d), last, number_more 256 x (i + d) (omega arith), div-mul-add (number_of (take (i + d) x)) 256 (get_or x (i + d) 0) (bytes (i + d)))
    (number_front x i d bytes (omega arith))

-- the highest b bits of what is held are a digit
pub digit_out : (x : List ℕ) (b c i o rest : ℕ) → ((k : ℕ) → get_or x k 0 < 256) → b * c ≤ 8 * length x → o < c → 8 * i ≡ b * (o + 1) + rest → rest < 8 → number_of (take i x) % 2 ^ (b + rest) / 2 ^ rest ≡ digit x b c o
unfolding digit
digit_out x b c i o rest bytes enough below place small =
    let whole : b * (o + 1) ≤ b * c = mul-le-mul_left b (omega arith) in
    let q = bytes_for (b * c) in
    let d = q - i in
    let ends : i + d ≡ q = omega arith in
    let front : number_of (take q x) / 2 ^ (8 * d) ≡ number_of (take i x) = subst (λ e. number_of (take e x) / 2 ^ (8 * d) ≡ number_of (take i x)) ends (number_front x i d bytes (omega arith)) in
    let shift : 8 * q - b * (o + 1) ≡ 8 * d + rest = omega arith in
    rw (field_of (number_of (take i x)) b rest, shift, ← shr-shr (number_of (take q x)) (8 * d) rest, front) refl

-- a digit of at most sixteen bits
pub digit_small : (n b rest : ℕ) → b ≤ 16 → n % 2 ^ (b + rest) / 2 ^ rest < 65536
digit_small n b rest high =
    let below : (n / 2 ^ rest) % 2 ^ b < 2 ^ b = mod_below (n / 2 ^ rest) (2 ^ b) (pow_pos b) in
    let whole : 2 ^ b ≤ 2 ^ 16 = pow_mono high in
    rw (field_of n b rest) (omega arith)

-- what is left once a digit is out
pub rest_of : (n total b rest : ℕ) → rest < 32 → total ≡ n % 2 ^ (b + rest) → bit_and total (1 * 2 ^ rest % 4294967296 - 1) ≡ n % 2 ^ rest
rest_of n total b rest small held = rw (one_shl rest 32 small, and_mask total rest, held, mod-mod-pow n b rest) refl

-- there is a byte to read while a digit lacks bits
pub byte_left : (b o c at bits n : ℕ) → 8 * at ≡ b * o + bits → bits < b → o < c → b * c ≤ 8 * n → at < n
byte_left b o c at bits n place lacks below enough =
    let whole : b * (o + 1) ≤ b * c = mul-le-mul_left b (omega arith) in omega arith

pub length-listed : (f : ℕ → ℕ) (k : ℕ) → length (listed f k) ≡ k
unfolding listed
length-listed f zero = refl
length-listed f (suc k) = rw (length-append (listed f k) (f k ∷ []), length-listed f k) (omega arith)

pub listed_at : (f : ℕ → ℕ) (k i : ℕ) → i < k → get_or (listed f k) i 0 ≡ f i
unfolding listed
listed_at f zero i h = absurd (omega arith)
listed_at f (suc k) i h =
    elim (cases_lt i k) [
      | inl below ↦ rw (get_or_append_left (listed f k) (f k ∷ []) 0 i (rw (length-listed f k) below)) (listed_at f k i below)
      | inr past ↦ (let same : i ≡ k = omega arith in rw (same, get_or_at (listed f k) (f k) [] 0 k (length-listed f k)) refl)
    ]

-- a digit of b bits
pub digits_below : (x : List ℕ) (b c i : ℕ) → i < c → get_or (digits x b c) i 0 < 2 ^ b
unfolding digit
digits_below x b c i h = rw (listed_at (digit x b c) c i h) (mod_below _ (2 ^ b) (pow_pos b))

three_below : (a b c k : ℕ) → get_or (a % 16 ∷ b % 16 ∷ c % 16 ∷ []) k 0 < 16
three_below a b c zero = omega arith
three_below a b c (suc zero) = omega arith
three_below a b c (suc (suc zero)) = omega arith
three_below a b c (suc (suc (suc k))) = omega arith

-- each digit of a message is below sixteen
pub wots_digits_below : (n : ℕ) (m : List ℕ) (i : ℕ) → get_or (wots_digits n m) i 0 < 16
unfolding wots_digits
wots_digits_below n m i =
    let ds = digits m 4 (2 * n) in
    elim (cases_lt i (2 * n)) [
      | inl below ↦ rw (get_or_append_left ds _ 0 i (rw (length-listed (digit m 4 (2 * n)) (2 * n)) below)) (digits_below m 4 (2 * n) i below)
      | inr past ↦ rw (get_or-append_right ds _ (2 * n) i 0 (length-listed (digit m 4 (2 * n)) (2 * n)) past) (three_below (checksum ds / 256) (checksum ds / 16) (checksum ds) (i - 2 * n))
    ]

sum_below : (xs : List ℕ) → ((i : ℕ) → get_or xs i 0 < 16) → sum xs ≤ 15 * length xs
sum_below [] small = omega arith
sum_below (x ∷ xs) small =
    let first : x < 16 = small 0 in
    let rest = sum_below xs (λ i. small (suc i)) in
    rw (sum_by-cons (λ d. d) x xs) (omega arith)

pub length-wots_digits : (n : ℕ) (m : List ℕ) → length (wots_digits n m) ≡ chain_count n
unfolding wots_digits
length-wots_digits n m =
    rw (length-append (digits m 4 (2 * n)) _, length-listed (digit m 4 (2 * n)) (2 * n)) refl

-- digits in the front of a row, and three more that are put behind them
pub three_more : (ds rest : List ℕ) (k a b c : ℕ) → length ds ≡ k → 3 ≤ length rest
    → take (k + 3) (slice_set (slice_set (slice_set (ds ++ rest) k a) (k + 1) b) (k + 2) c) ≡ ds ++ a ∷ b ∷ c ∷ []
three_more ds rest k a b c size room =
    let row = ds ++ rest in
    let one = slice_set row k a in
    let two = slice_set one (k + 1) b in
    let long : k + 3 ≤ length row = omega (arith, length-append ds rest, size, room) in
    let third : k + 3 ≡ k + 2 + 1 = omega arith in
    let second : k + 2 ≡ k + 1 + 1 = omega arith in
    rw (third, take_more_set two (k + 2) c (omega (arith, length-set {A = ℕ}, long)), second, take_more_set one (k + 1) b (omega (arith, length-set {A = ℕ}, long)), take_more_set row k a (omega (arith, long)), take_front k ds rest size, append_assoc, append_assoc) refl

-- what all digits of a message say together
pub wots_digits-sum : (n : ℕ) (m : List ℕ) → sum (wots_digits n m) ≤ 15 * chain_count n
wots_digits-sum n m =
    rw (← length-wots_digits n m) (sum_below (wots_digits n m) (λ i. wots_digits_below n m i))
