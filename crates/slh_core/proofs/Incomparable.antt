-- The digits of two different messages are incomparable: in some place the one is below the other.
use Rattle.std.proofs.Common.{◌≡◌, ◌≢◌, ◌⊎◌, inl, inr, ℕ, zero, suc, ◌+◌, ◌-◌, ◌*◌, ◌/◌, ◌%◌, ◌^◌, ◌<◌, ◌≤◌, List, [], ◌∷◌, length, take, get_or, arith, refl, sym, ◌∙◌, sum_by}
use Rattle.std.proofs.lemmas.Bool.{cases_lt}
use Rattle.std.proofs.lemmas.List.{get_or_append_left, get_or-append_right, same_lists, get_or_default}
use Rattle.std.proofs.lemmas.List.Sums.{sum_by_push}
use Rattle.std.proofs.lemmas.Int.Digits.{number_more}
use Rattle.std.proofs.lemmas.Nat.{shr-shr}
use Rattle.slh_core.specs.Bytes.{number_of}
use Rattle.slh_core.specs.Digits.{digit, listed, digits, wots_digits}
use Rattle.slh_core.specs.Parameters.{bytes_for, chain_count}
use Rattle.slh_core.proofs.DigitSteps.{number_front, digits_below, length-listed, listed_at}

-- what digits lack of fifteen
lacks : (ℕ → ℕ) → ℕ → ℕ
lacks f k = sum_by (λ d. 15 - d) (listed f k)

lacks_more : (f : ℕ → ℕ) (k : ℕ) → lacks f (suc k) ≡ lacks f k + (15 - f k)
unfolding lacks listed
lacks_more f k = sum_by_push (λ d. 15 - d) (listed f k) (f k)

lacks-le : (f g : ℕ → ℕ) (k : ℕ) → ((i : ℕ) → i < k → g i ≤ f i) → lacks f k ≤ lacks g k
unfolding lacks listed
lacks-le f g zero h = omega arith
lacks-le f g (suc k) h =
    let rest = lacks-le f g k (λ i b. h i (omega arith)) in
    let last = h k (omega arith) in
    omega (arith, lacks_more f k, lacks_more g k)

lacks-small : (f : ℕ → ℕ) (k : ℕ) → lacks f k ≤ 15 * k
unfolding lacks listed
lacks-small f zero = omega arith
lacks-small f (suc k) = omega (arith, lacks_more f k, lacks-small f k)

-- digits that are nowhere below others, and that lack no less, are the same
same_digits : (f g : ℕ → ℕ) (k : ℕ) → ((i : ℕ) → i < k → f i < 16) → ((i : ℕ) → i < k → g i ≤ f i) → lacks g k ≤ lacks f k → (i : ℕ) → i < k → f i ≡ g i
same_digits f g zero small h most i below = absurd (omega arith)
same_digits f g (suc k) small h most i below =
    let rest = lacks-le f g k (λ i b. h i (omega arith)) in
    let last = h k (omega arith) in
    let fits = small k (omega arith) in
    let more = lacks_more f k in
    let others = lacks_more g k in
    elim (cases_lt i k) [
      | inl inside ↦ same_digits f g k (λ i b. small i (omega arith)) (λ i b. h i (omega arith)) (omega arith) i inside
      | inr past ↦ (let same : i ≡ k = omega arith in let equal : f k ≡ g k = omega arith in rw same equal)
    ]

-- the high parts of two numbers with the same digits
same_high : (n : ℕ) (x y : List ℕ) → length x ≡ n → length y ≡ n → ((k : ℕ) → get_or x k 0 < 256) → ((k : ℕ) → get_or y k 0 < 256)
    → ((i : ℕ) → i < 2 * n → digit x 4 (2 * n) i ≡ digit y 4 (2 * n) i)
    → (k : ℕ) → k ≤ 2 * n → number_of (take n x) / 2 ^ (8 * n - 4 * k) ≡ number_of (take n y) / 2 ^ (8 * n - 4 * k)
unfolding digit
same_high n x y lx ly bx by same zero h =
    let all : 8 * n - 4 * 0 ≡ 8 * n = omega arith in
    let whole : 0 + n ≡ n = omega arith in
    let fx : number_of (take (0 + n) x) / 2 ^ (8 * n) ≡ 0 = number_front x 0 n bx (omega arith) in
    let fy : number_of (take (0 + n) y) / 2 ^ (8 * n) ≡ 0 = number_front y 0 n by (omega arith) in
    rw all (rw whole at fx ∙ sym (rw whole at fy))
same_high n x y lx ly bx by same (suc k) h =
    let before = same_high n x y lx ly bx by same k (omega arith) in
    let e = 8 * n - 4 * suc k in
    let up : 8 * n - 4 * k ≡ e + 4 = omega arith in
    let q : bytes_for (4 * (2 * n)) ≡ n = omega arith in
    let at : 8 * n - 4 * (k + 1) ≡ e = omega arith in
    let d : number_of (take n x) / 2 ^ e % 16 ≡ number_of (take n y) / 2 ^ e % 16 = rw (q, at) at (same k (omega arith)) in
    let high : number_of (take n x) / 2 ^ e / 16 ≡ number_of (take n y) / 2 ^ e / 16
    = shr-shr (number_of (take n x)) e 4 ∙ (rw up at before) ∙ sym (shr-shr (number_of (take n y)) e 4) in
    omega (arith, d, high)

-- byte strings of the same number
same_bytes : (x y : List ℕ) (i : ℕ) → i ≤ length x → length x ≡ length y → ((k : ℕ) → get_or x k 0 < 256) → ((k : ℕ) → get_or y k 0 < 256)
    → number_of (take i x) ≡ number_of (take i y) → (k : ℕ) → k < i → get_or x k 0 ≡ get_or y k 0
same_bytes x y zero h len bx by e k below = absurd (omega arith)
same_bytes x y (suc i) h len bx by e k below =
    let last : suc i ≡ i + 1 = omega arith in
    let nx = number_more 256 x i (omega arith) in
    let ny = number_more 256 y i (omega arith) in
    let both : number_of (take i x) * 256 + get_or x i 0 ≡ number_of (take i y) * 256 + get_or y i 0 = sym nx ∙ (rw last at e) ∙ ny in
    let sx = bx i in
    let sy = by i in
    elim (cases_lt k i) [
      | inl inside ↦ same_bytes x y i (omega arith) len bx by (omega (arith, both)) k inside
      | inr past ↦ (let same : k ≡ i = omega arith in rw same (omega (arith, both)))
    ]

-- the digits of a message, and those of its checksum
message_digit : (n : ℕ) (m : List ℕ) (i : ℕ) → i < 2 * n → get_or (wots_digits n m) i 0 ≡ digit m 4 (2 * n) i
unfolding wots_digits
message_digit n m i below =
    get_or_append_left (digits m 4 (2 * n)) _ 0 i (rw (length-listed (digit m 4 (2 * n)) (2 * n)) below)
    ∙ listed_at (digit m 4 (2 * n)) (2 * n) i below

checksum_digit : (n : ℕ) (m : List ℕ) (i : ℕ) → let s = lacks (digit m 4 (2 * n)) (2 * n) in get_or (wots_digits n m) (2 * n + i) 0 ≡ get_or (s / 256 % 16 ∷ s / 16 % 16 ∷ s % 16 ∷ []) i 0
unfolding wots_digits lacks
checksum_digit n m i =
    let whole : 2 * n + i - 2 * n ≡ i = omega arith in
    get_or-append_right (digits m 4 (2 * n)) _ (2 * n) (2 * n + i) 0 (length-listed (digit m 4 (2 * n)) (2 * n)) (omega arith)
    ∙ rw whole refl

-- where no digit is below the other's, the messages are the same
pub same_messages : (n : ℕ) (x y : List ℕ) → n ≤ 32 → length x ≡ n → length y ≡ n → ((k : ℕ) → get_or x k 0 < 256) → ((k : ℕ) → get_or y k 0 < 256)
    → ((c : ℕ) → c < chain_count n → get_or (wots_digits n y) c 0 ≤ get_or (wots_digits n x) c 0) → x ≡ y
same_messages n x y small lx ly bx by h =
    let fx = digit x 4 (2 * n) in
    let fy = digit y 4 (2 * n) in
    let sx = lacks fx (2 * n) in
    let sy = lacks fy (2 * n) in
    let below : (i : ℕ) → i < 2 * n → fy i ≤ fx i = λ i b. rw (message_digit n x i b, message_digit n y i b) at (h i (omega arith)) in
    let fits : (i : ℕ) → i < 2 * n → fx i < 16 = λ i b. rw (listed_at fx (2 * n) i b) at (digits_below x 4 (2 * n) i b) in
    let h0 : sy / 256 % 16 ≤ sx / 256 % 16 = rw (checksum_digit n x 0, checksum_digit n y 0) at (h (2 * n + 0) (omega arith)) in
    let h1 : sy / 16 % 16 ≤ sx / 16 % 16 = rw (checksum_digit n x 1, checksum_digit n y 1) at (h (2 * n + 1) (omega arith)) in
    let h2 : sy % 16 ≤ sx % 16 = rw (checksum_digit n x 2, checksum_digit n y 2) at (h (2 * n + 2) (omega arith)) in
    let most_x = lacks-small fx (2 * n) in
    let most_y = lacks-small fy (2 * n) in
    let most : sy ≤ sx = omega (arith, h0, h1, h2, most_x, most_y) in
    let same = same_digits fx fy (2 * n) fits below most in
    let high = same_high n x y lx ly bx by same (2 * n) (omega arith) in
    let none : 8 * n - 4 * (2 * n) ≡ 0 = omega arith in
    let numbers : number_of (take n x) ≡ number_of (take n y) = omega (arith, rw none at high) in
    let places = same_bytes x y n (omega arith) (lx ∙ sym ly) bx by numbers in
    same_lists x y (lx ∙ sym ly) (λ k d inside.
    get_or_default x k d 0 inside ∙ places k (omega arith) ∙ get_or_default y k 0 d (omega arith))

-- one of two lists of numbers has a place that is below, or no place of it is
pub some_below : (f g : ℕ → ℕ) (k : ℕ) → ((c : ℕ) × (c < k) × (f c < g c)) ⊎ ((c : ℕ) → c < k → g c ≤ f c)
some_below f g zero = inr (λ c below. absurd (omega arith))
some_below f g (suc k) =
    elim (some_below f g k) [
      | inl found ↦ inl (found.0, omega (arith, found.1), found.2)
      | inr none ↦
          elim (cases_lt (f k) (g k)) [
            | inl here ↦ inl (k, omega arith, here)
            | inr past ↦ inr (λ c below. elim (cases_lt c k) [
              | inl inside ↦ none c inside
              | inr last ↦ (let same : c ≡ k = omega arith in rw same past)
            ])
          ]
    ]

-- different messages: some digit of the first is below the second's
pub digit_below : (n : ℕ) (x y : List ℕ) → n ≤ 32 → length x ≡ n → length y ≡ n → ((k : ℕ) → get_or x k 0 < 256) → ((k : ℕ) → get_or y k 0 < 256)
    → x ≢ y → (c : ℕ) × (c < chain_count n) × (get_or (wots_digits n x) c 0 < get_or (wots_digits n y) c 0)
digit_below n x y small lx ly bx by differ =
    elim (some_below (λ c. get_or (wots_digits n x) c 0) (λ c. get_or (wots_digits n y) c 0) (chain_count n)) [
      | inl found ↦ found
      | inr none ↦ absurd (differ (same_messages n x y small lx ly bx by none))
    ]
