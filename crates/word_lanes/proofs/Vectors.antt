-- The lanes of vectors of words of any width, and facts at each place below a known number.
use mir.Val.{bits}
use Rattle.std.proofs.Common.{◌≡◌, ℕ, zero, suc, ◌+◌, ◌<◌, ◌-◌, ◌*◌, ◌/◌, ◌%◌, ◌^◌, ◌∙◌, bit_and}
use Rattle.std.proofs.Common.{bit_xor, List, length, slice_index, bit_or, ap, subst, arith, refl}
use Rattle.std.proofs.Common.{replicate, Fits}
use Rattle.std.proofs.Math.Nat.{mod-eq_of_lt}
use Rattle.std.specs.Simd.Lanes.{zip2, Each1}
use Rattle.std.specs.Int.{Width, rotate_right}
use Rattle.std.proofs.lemmas.Simd.{get_or-zip2, length-zip2, length-replicate, get_or-replicate}
use Rattle.std.proofs.lemmas.Simd.{Each1-get_or}
use Rattle.std.proofs.lemmas.Nat.{and_le_l, shr_le, xor_lt}
use Rattle.word_lanes.proofs.Words.{turned, turned-lt}

-- lane j of an operator's result, at vectors of n lanes
lane-zip2 : (n : ℕ) (f : ℕ → ℕ → ℕ) (xs ys : List ℕ) (j : ℕ)
    → length xs ≡ n → length ys ≡ n → j < n
    → slice_index (zip2 f xs ys) j ≡ f (slice_index xs j) (slice_index ys j)
lane-zip2 n f xs ys j lx ly h = get_or-zip2 f xs ys j 0 0 0 (omega arith) (omega arith)

-- the same with k in each lane of the other, and how many lanes the result has
module _ (n k : ℕ) (f : ℕ → ℕ → ℕ) (xs : List ℕ) (l : length xs ≡ n) where
  lane-each : (j : ℕ) → j < n → slice_index (zip2 f xs (replicate n k)) j ≡ f (slice_index xs j) k
  lane-each j h =
      lane-zip2 n f xs (replicate n k) j l (length-replicate n k) h
      ∙ ap (f (slice_index xs j)) (get_or-replicate n j k 0 h)

  lanes-each : length (zip2 f xs (replicate n k)) ≡ n
  lanes-each =
      let all : length (replicate n k) ≡ n = length-replicate n k in
      length-zip2 f xs (replicate n k) (omega arith) ∙ l

module _ (w : Width) where
  -- n lanes with a word in each
  abbrev pub AreWords : ℕ → List ℕ → Type 0
  AreWords n xs = (length xs ≡ n) × Each1 (Fits w) xs

  lane-lt : (n : ℕ) (xs : List ℕ) (j : ℕ) → AreWords n xs → j < n → slice_index xs j < 2 ^ bits w
  lane-lt n xs j e h =
      let at : Fits w (slice_index xs j) = Each1-get_or (Fits w) xs j 0 (omega (arith, e.0)) e.1 in
      at.fits

  -- lane j as a word
  abbrev pub lane : List ℕ → ℕ → ℕ
  lane xs j = slice_index xs j % 2 ^ bits w

  -- shifts of a lane to the right and to the left
  abbrev pub right : ℕ → ℕ → ℕ
  right x k = x / 2 ^ k

  abbrev pub left : ℕ → ℕ → ℕ
  left x k = x * 2 ^ k % 2 ^ bits w

  -- two shifts of each lane and an or
  abbrev pub shifted_both : ℕ → ℕ → List ℕ → List ℕ
  shifted_both n k xs =
      zip2 bit_or (zip2 right xs (replicate n k)) (zip2 left xs (replicate n (bits w - k)))

  -- they turn each lane
  shifts_turn : (n k : ℕ) (xs : List ℕ) (j : ℕ) → length xs ≡ n → j < n
      → slice_index (shifted_both n k xs) j ≡ turned (bits w) (slice_index xs j) k
  shifts_turn n k xs j l h =
      let back : ℕ = bits w - k in
      let one = lanes-each n k right xs l in
      let two = lanes-each n back left xs l in
      rw (
        lane-zip2 n bit_or _ _ j one two h,
        lane-each n k right xs l j h,
        lane-each n back left xs l j h,
      ) refl

  turn_rotates : (k x : ℕ) → 0 < k → k < bits w → rotate_right w x k ≡ turned (bits w) x k
  turn_rotates k x low high =
      let same : k % bits w ≡ k = mod-eq_of_lt high in
      let rest : (bits w - k) % bits w ≡ bits w - k = mod-eq_of_lt (omega arith) in
      rw (same, rest) refl

  -- lane j of an operator that gives words of words
  lane-op : (n : ℕ) (f : ℕ → ℕ → ℕ)
      → ((a b : ℕ) → a < 2 ^ bits w → b < 2 ^ bits w → f a b < 2 ^ bits w)
      → (xs ys : List ℕ) (j : ℕ) → AreWords n xs → AreWords n ys → j < n
      → lane (zip2 f xs ys) j ≡ f (lane xs j) (lane ys j)
  lane-op n f closed xs ys j ex ey h =
      let a = lane-lt n xs j ex h in
      let b = lane-lt n ys j ey h in
      rw (lane-zip2 n f xs ys j ex.0 ey.0 h, mod-eq_of_lt a, mod-eq_of_lt b)
      (mod-eq_of_lt (closed _ _ a b))

  pub lane-and : (n : ℕ) (xs ys : List ℕ) (j : ℕ) → AreWords n xs → AreWords n ys → j < n
      → lane (zip2 bit_and xs ys) j ≡ bit_and (lane xs j) (lane ys j)
  lane-and n = lane-op n bit_and (λ a b ha hb. omega (arith, and_le_l a b))

  pub lane-xor : (n : ℕ) (xs ys : List ℕ) (j : ℕ) → AreWords n xs → AreWords n ys → j < n
      → lane (zip2 bit_xor xs ys) j ≡ bit_xor (lane xs j) (lane ys j)
  lane-xor n = lane-op n bit_xor (λ a b ha hb. xor_lt (bits w) a b ha hb)

  pub lane-shifted : (n k : ℕ) (xs : List ℕ) (j : ℕ) → AreWords n xs → j < n
      → lane (zip2 right xs (replicate n k)) j ≡ lane xs j / 2 ^ k
  lane-shifted n k xs j e h =
      let a = lane-lt n xs j e h in
      let le = shr_le (slice_index xs j) k in
      let small : slice_index xs j / 2 ^ k < 2 ^ bits w = omega (arith, le) in
      rw (lane-each n k right xs e.0 j h, mod-eq_of_lt a) (mod-eq_of_lt small)

  pub lane-rotated : (n k : ℕ) → 0 < k → k < bits w → (xs : List ℕ) (j : ℕ) → AreWords n xs → j < n
      → lane (shifted_both n k xs) j ≡ rotate_right w (lane xs j) k
  lane-rotated n k low high xs j e h =
      let a = lane-lt n xs j e h in
      rw (shifts_turn n k xs j e.0 h, mod-eq_of_lt a, turn_rotates k (slice_index xs j) low high)
      (mod-eq_of_lt (turned-lt (bits w) (slice_index xs j) k a))

below_two : (P : ℕ → Type 0) → P 0 → P 1 → (j : ℕ) → j < 2 → P j
below_two P p0 p1 zero h = p0
below_two P p0 p1 (suc zero) h = p1
below_two P p0 p1 (suc (suc n)) h = absurd (omega arith)

pub below_four : (P : ℕ → Type 0) → P 0 → P 1 → P 2 → P 3 → (j : ℕ) → j < 4 → P j
below_four P p0 p1 p2 p3 zero h = p0
below_four P p0 p1 p2 p3 (suc zero) h = p1
below_four P p0 p1 p2 p3 (suc (suc zero)) h = p2
below_four P p0 p1 p2 p3 (suc (suc (suc zero))) h = p3
below_four P p0 p1 p2 p3 (suc (suc (suc (suc n)))) h = absurd (omega arith)

pub below_eight : (P : ℕ → Type 0) → P 0 → P 1 → P 2 → P 3 → P 4 → P 5 → P 6 → P 7
    → (j : ℕ) → j < 8 → P j
below_eight P a b c d e f g h j low =
    let place : 4 * (j / 4) + j % 4 ≡ j = omega arith in
    subst P place (below_two (λ row. (col : ℕ) → col < 4 → P (4 * row + col))
    (below_four _ a b c d) (below_four _ e f g h) (j / 4) (omega arith) (j % 4) (omega arith))

pub below_sixteen : (P : ℕ → Type 0) → P 0 → P 1 → P 2 → P 3 → P 4 → P 5 → P 6 → P 7
    → P 8 → P 9 → P 10 → P 11 → P 12 → P 13 → P 14 → P 15 → (k : ℕ) → k < 16 → P k
below_sixteen P a0 a1 a2 a3 b0 b1 b2 b3 c0 c1 c2 c3 d0 d1 d2 d3 k h =
    let place : 4 * (k / 4) + k % 4 ≡ k = omega arith in
    subst P place (below_four (λ row. (col : ℕ) → col < 4 → P (4 * row + col))
    (below_four _ a0 a1 a2 a3) (below_four _ b0 b1 b2 b3)
    (below_four _ c0 c1 c2 c3) (below_four _ d0 d1 d2 d3)
    (k / 4) (omega arith) (k % 4) (omega arith))
