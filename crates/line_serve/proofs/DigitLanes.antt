-- Sixteen hexadecimal digits at once: what each lane has.
use Rattle.std.proofs.Common.{◌≡◌, ℕ, zero, suc, ◌+◌, ◌*◌, ◌<◌, ◌≤◌, ◌%◌, ◌^◌, ◌&&◌, ◌||◌, Bool, true, false, nat_eq, nat_le, List, [], ◌∷◌, length, map, replicate, slice_index, cond, inl, inr, refl, sym, ap, subst, arith, ◌∙◌, Fits}
use Rattle.std.specs.List.{position_or_len}
use Rattle.std.proofs.lemmas.Bool.{and_parts, cases_lt, eqb-true, leb-true}
use Rattle.std.proofs.lemmas.List.{length-map}
use Rattle.std.proofs.lemmas.List.Sums.{fails_before_first}
use Rattle.std.proofs.lemmas.Simd.{Each1-get_or, get_or-replicate, get_or-zip2, leading_from_mask_l, length-replicate, length-zip2, mask_l-lt}
use Rattle.hex.specs.Hex.{hex_digit_value}
use Rattle.line_serve.proofs.DigitPairs.{HasValue, is_value, has_value}
use borrow.Rule.Simd.Lanes.{act2}
use borrow.Table.Row.{s_int}
use lib.Lanes.{Each1, mask_l, sel_l, top, zip2}
use mir.Syntax.{bit_or, lt, mask, unsigned, w8, wrap_add, wrap_mul, wrap_sub}

abbrev pub plus : ℕ → ℕ → ℕ
plus = act2 wrap_add (s_int w8) (s_int w8) (s_int w8)

abbrev pub times : ℕ → ℕ → ℕ
times = act2 wrap_mul (s_int w8) (s_int w8) (s_int w8)

abbrev minus : ℕ → ℕ → ℕ
minus = act2 wrap_sub (s_int w8) (s_int w8) (s_int w8)

abbrev either : ℕ → ℕ → ℕ
either = act2 bit_or (s_int w8) (s_int w8) (s_int w8)

abbrev is_less : ℕ → ℕ → ℕ
is_less = act2 (mask (lt unsigned)) (s_int w8) (s_int w8) (s_int w8)

-- what is computed of the lanes
abbrev values : ℕ → List ℕ → List ℕ
values n xs =
    let decimal = zip2 minus xs (replicate n 48) in
    let letter = zip2 minus (zip2 either xs (replicate n 32)) (replicate n 97) in
    sel_l (map (top 7) (zip2 is_less decimal (replicate n 10))) decimal
    (sel_l (map (top 7) (zip2 is_less letter (replicate n 6))) (zip2 plus letter (replicate n 10)) (replicate n 16))

-- the same of one
abbrev pub value : ℕ → ℕ
value x =
    let decimal = minus x 48 in
    let letter = minus (either x 32) 97 in
    cond (top 7 (is_less decimal 10)) decimal (cond (top 7 (is_less letter 6)) (plus letter 10) 16)

values_are : (xs : List ℕ) → values (length xs) xs ≡ map value xs
values_are [] = refl
values_are (x ∷ xs) = ap (λ (l : List ℕ). value x ∷ l) (values_are xs)

pub values_of : (n : ℕ) (xs : List ℕ) → length xs ≡ n → values n xs ≡ map value xs
values_of n xs e = subst (λ (k : ℕ). values k xs ≡ map value xs) e (values_are xs)

-- whether a lane's value is right for each byte below n, which computes
abbrev all_right : ℕ → Bool
all_right zero = true
all_right (suc n) = is_value (value n) (hex_digit_value n) && all_right n

right_at : (n k : ℕ) → all_right n ≡ true → k < n → is_value (value k) (hex_digit_value k) ≡ true
right_at zero k h low = absurd (omega arith)
right_at (suc n) k h low =
    let parts = and_parts (is_value (value n) (hex_digit_value n)) (all_right n) h in
    elim (cases_lt k n) [
      | inl below ↦ right_at n k parts.1 below
      | inr last ↦
          let e : k ≡ n = omega arith in
          rw e parts.0
    ]

pub value_right : (x : ℕ) → x < 256 → HasValue (hex_digit_value x) (value x)
value_right x low = has_value (value x) (hex_digit_value x) (right_at 256 x refl low)

-- whether a lane is over 15
abbrev is_over : ℕ → Bool
is_over x = top 7 (is_less 15 x)

over_are : (xs : List ℕ) → map (top 7) (zip2 is_less (replicate (length xs) 15) xs) ≡ map is_over xs
over_are [] = refl
over_are (x ∷ xs) = ap (λ (l : List Bool). is_over x ∷ l) (over_are xs)

over_of : (n : ℕ) (xs : List ℕ) → length xs ≡ n → map (top 7) (zip2 is_less (replicate n 15) xs) ≡ map is_over xs
over_of n xs e = subst (λ (k : ℕ). map (top 7) (zip2 is_less (replicate k 15) xs) ≡ map is_over xs) e (over_are xs)

-- whether each byte below n that is over 15 is seen, which computes
abbrev all_seen : ℕ → Bool
all_seen zero = true
all_seen (suc n) = (nat_le n 15 || is_over n) && all_seen n

seen_at : (n k : ℕ) → all_seen n ≡ true → k < n → (nat_le k 15 || is_over k) ≡ true
seen_at zero k h low = absurd (omega arith)
seen_at (suc n) k h low =
    let parts = and_parts (nat_le n 15 || is_over n) (all_seen n) h in
    elim (cases_lt k n) [
      | inl below ↦ seen_at n k parts.1 below
      | inr last ↦
          let e : k ≡ n = omega arith in
          rw e parts.0
    ]

first_holds : (a b : Bool) → (a || b) ≡ true → b ≡ false → a ≡ true
first_holds true b h none = refl
first_holds false b h none = sym none ∙ h

within : (x : ℕ) → x < 256 → is_over x ≡ false → x ≤ 15
within x low none = leb-true x 15 (first_holds (nat_le x 15) (is_over x) (seen_at 256 x refl low) none)

-- where no bit of the mask is set, no lane is over 15
pub none_over : (xs : List ℕ) (j : ℕ) → length xs ≡ 16 → Each1 (Fits w8) xs → j < 16
    → nat_eq (mask_l (map (top 7) (zip2 is_less (replicate 16 15) xs)) % 2 ^ 64) 0 ≡ true → slice_index xs j ≤ 15
none_over xs j len fits low is =
    let mask = mask_l (map (top 7) (zip2 is_less (replicate 16 15) xs)) in
    let same : mask ≡ mask_l (map is_over xs) = ap mask_l (over_of 16 xs len) in
    let small : mask_l (map is_over xs) < 2 ^ 16 = subst (λ (n : ℕ). mask_l (map is_over xs) < 2 ^ n) (length-map xs is_over ∙ len) (mask_l-lt (map is_over xs)) in
    let zero_mod : mask % 2 ^ 64 ≡ 0 = eqb-true (mask % 2 ^ 64) 0 is in
    let none : mask_l (map is_over xs) ≡ 0 = omega (arith, same, small, zero_mod) in
    let all : position_or_len is_over xs ≡ length xs = leading_from_mask_l is_over xs none in
    let byte = Each1-get_or _ xs j 0 (omega (arith, len, low)) fits in
    within (slice_index xs j) byte.fits (fails_before_first is_over xs j 0 (omega (arith, all, len, low)))

byte_of : (high low : ℕ) → high ≤ 15 → low ≤ 15 → plus (times high 16) low ≡ high * 16 + low
byte_of high low h l = omega arith

-- each lane of the joined digits
pub joined_at : (highs lows : List ℕ) (j : ℕ) → length highs ≡ 16 → length lows ≡ 16 → j < 16 → slice_index highs j ≤ 15 → slice_index lows j ≤ 15
    → slice_index (zip2 plus (zip2 times highs (replicate 16 16)) lows) j ≡ slice_index highs j * 16 + slice_index lows j
joined_at highs lows j len_h len_l low h l =
    let first : length (zip2 times highs (replicate 16 16)) ≡ 16 = length-zip2 times highs (replicate 16 16) len_h ∙ len_h in
    get_or-zip2 plus (zip2 times highs (replicate 16 16)) lows j 0 0 0 (omega (arith, first, low)) (omega (arith, len_l, low))
    ∙ ap (λ (x : ℕ). plus x (slice_index lows j)) (get_or-zip2 times highs (replicate 16 16) j 0 0 0 (omega (arith, len_h, low)) (omega (arith, length-replicate {A = ℕ} 16 16, low))
    ∙ ap (λ (x : ℕ). times (slice_index highs j) x) (get_or-replicate 16 j 16 0 low))
    ∙ byte_of (slice_index highs j) (slice_index lows j) h l
