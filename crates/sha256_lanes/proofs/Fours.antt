-- Words four at a time, and the four after sixteen others.
use Rattle.std.proofs.Common.{◌≡◌, ℕ, ◌+◌, ◌-◌, ◌%◌, ◌^◌, ◌<◌, ◌≤◌, ◌∙◌, List, [], ◌∷◌, ◌++◌, ap, arith, length, refl, slice_index, sym}
use Rattle.std.proofs.lemmas.List.{get_or_append_left, get_or-append_right}
use Rattle.sha256_lanes.specs.Eight.{word_in}
use Rattle.sha256_lanes.specs.Rounds.{next_in}
use Rattle.sha256_lanes.specs.Sha256.{lower_sigma0, lower_sigma1, sum32}

-- a lane of two vectors of four, counted on from the first to the second
pub joined_left : (xs ys : List ℕ) (k : ℕ) → length xs ≡ 4 → k < 4
    → slice_index (xs ++ ys) k % 2 ^ 32 ≡ word_in xs k
joined_left xs ys k four low = ap (λ (x : ℕ). x % 2 ^ 32) (get_or_append_left xs ys 0 k (omega arith))

pub joined_right : (xs ys : List ℕ) (k j : ℕ) → length xs ≡ 4 → k ≡ 4 + j
    → slice_index (xs ++ ys) k % 2 ^ 32 ≡ word_in ys j
joined_right xs ys k j four place =
    let back : k - 4 ≡ j = omega arith in
    ap (λ (x : ℕ). x % 2 ^ 32) (get_or-append_right xs ys 4 k 0 four (omega arith) ∙ ap (slice_index ys) back)

-- the sum of a later word, in the order of vectors: the first two words, and the last two
pub early_sum : (w0 s0 w9 s1 : ℕ)
    → sum32 (sum32 (sum32 (sum32 w0 s0) w9) s1) 0 ≡ sum32 (sum32 (sum32 s1 w9) s0) w0
early_sum w0 s0 w9 s1 = omega arith

pub late_sum : (w0 s0 w9 s1 : ℕ)
    → sum32 (sum32 (sum32 (sum32 w0 s0) w9) 0) s1 ≡ sum32 (sum32 (sum32 s1 w9) s0) w0
late_sum w0 s0 w9 s1 = omega arith

-- a word with its constant
pub sum_constant : (w k : ℕ) → sum32 w (k % 2 ^ 32) ≡ sum32 w k
sum_constant w k = omega arith

-- the word in one of the first two lanes: a zero stands where the last two have the first two
pub early_word : (w0 w1 w9 w14 s q p f half last : ℕ) → s ≡ w1 → q ≡ w9 → p ≡ w14 → f ≡ 0
    → half ≡ sum32 (sum32 (sum32 w0 (lower_sigma0 s)) q) (lower_sigma1 p)
    → last ≡ sum32 half (lower_sigma1 f) → last ≡ next_in w0 w1 w9 w14
early_word w0 w1 w9 w14 s q p f half last es eq ep ef made whole =
    whole ∙ rw (made, es, eq, ep, ef) (early_sum w0 (lower_sigma0 w1) w9 (lower_sigma1 w14))

-- that in one of the last two
pub late_word : (w0 w1 w9 w14 s q p f half last : ℕ) → s ≡ w1 → q ≡ w9 → p ≡ 0 → f ≡ w14
    → half ≡ sum32 (sum32 (sum32 w0 (lower_sigma0 s)) q) (lower_sigma1 p)
    → last ≡ sum32 half (lower_sigma1 f) → last ≡ next_in w0 w1 w9 w14
late_word w0 w1 w9 w14 s q p f half last es eq ep ef made whole =
    whole ∙ rw (made, es, eq, ep, ef) (late_sum w0 (lower_sigma0 w1) w9 (lower_sigma1 w14))

sum_settled : (a b : ℕ) → sum32 a b ≡ sum32 (sum32 a b) 0
sum_settled a b = omega arith

-- a zero leaves a word as it was
pub settled : (a b f half last : ℕ) → f ≡ 0 → half ≡ sum32 a b → last ≡ sum32 half (lower_sigma1 f) → half ≡ last
settled a b f half last ef made whole = made ∙ sum_settled a b ∙ sym (whole ∙ rw (ef, made) refl)
