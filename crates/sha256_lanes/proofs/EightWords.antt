-- The words of eight values and heads, and the bytes that they stand for.
use Rattle.std.proofs.Common.{◌≡◌, ℕ, zero, suc, ◌+◌, ◌-◌, ◌*◌, ◌%◌, ◌^◌, ◌<◌, ◌≤◌, List, [], ◌∷◌, ◌++◌, length, take, drop, replicate, get_or, slice_index, cond, refl, sym, ap, ◌∙◌, arith, length-append, append-nil, Fits, w8, Bool, true, false, inl, inr, lit<, mod-lt, pow_pos}
use Rattle.std.proofs.lemmas.List.{length-replicate, take-replicate, get_or_append_left, get_or-append_right, get_or-replicate, get_or_past}
use Rattle.std.proofs.lemmas.Bool.{cases_lt}
use Rattle.std.proofs.Math.Seq.{drop-cons, take-append-add}
use Rattle.std.specs.Int.{to_be_bytes, w32}
use Rattle.sha256_lanes.specs.Eight.{IsBlock, front_word, middle_word}
use Rattle.sha256_lanes.specs.Sha256.{block_word, word_bytes}

-- two lists with equal heads and tails
pub cons : {x y : ℕ} {xs ys : List ℕ} → x ≡ y → xs ≡ ys → x ∷ xs ≡ y ∷ ys
cons {y} {xs} p q = ap (λ z. z ∷ xs) p ∙ ap (λ zs. y ∷ zs) q

four_bytes : (a b c d : ℕ) → a < 256 → b < 256 → c < 256 → d < 256
    → to_be_bytes w32 (a * 2 ^ 24 + b * 2 ^ 16 + c * 2 ^ 8 + d) ≡ a ∷ b ∷ c ∷ d ∷ []
four_bytes a b c d la lb lc ld = cons (omega arith) (cons (omega arith) (cons (omega arith) (cons (omega arith) refl)))

pub open_four : (b : List ℕ) (k : ℕ) → k + 4 ≤ length b
    → drop k b ≡ slice_index b k ∷ slice_index b (suc k) ∷ slice_index b (suc (suc k)) ∷ slice_index b (suc (suc (suc k))) ∷ drop (suc (suc (suc (suc k)))) b
open_four b k fits =
    drop-cons b k 0 (omega arith) ∙ ap (λ (l : List ℕ). slice_index b k ∷ l)
    (drop-cons b (suc k) 0 (omega arith) ∙ ap (λ (l : List ℕ). slice_index b (suc k) ∷ l)
    (drop-cons b (suc (suc k)) 0 (omega arith) ∙ ap (λ (l : List ℕ). slice_index b (suc (suc k)) ∷ l)
    (drop-cons b (suc (suc (suc k))) 0 (omega arith))))

-- n words of a block, from word i on
abbrev pub words_at : List ℕ → ℕ → ℕ → List ℕ
words_at b i zero = []
words_at b i (suc n) = block_word b (4 * i) ∷ words_at b (i + 1) n

pub words_are : (b : List ℕ) (n i : ℕ) → IsBlock b → i + n ≤ 16 → word_bytes (words_at b i n) ≡ take (4 * n) (drop (4 * i) b)
words_are b zero i block fits = refl
words_are b (suc n) i block fits =
    let len : length b ≡ 64 = block.0 in
    let k : ℕ = 4 * i in
    let next : suc (suc (suc (suc k))) ≡ 4 * (i + 1) = omega arith in
    let third : suc (suc (suc k)) ≡ k + 3 = omega arith in
    let second : suc (suc k) ≡ k + 2 = omega arith in
    let first : suc k ≡ k + 1 = omega arith in
    let count : 4 * suc n ≡ suc (suc (suc (suc (4 * n)))) = omega arith in
    let rest = words_are b n (i + 1) block (omega arith) in
    let four = four_bytes (slice_index b k) (slice_index b (k + 1)) (slice_index b (k + 2)) (slice_index b (k + 3)) (block.1 k) (block.1 (k + 1)) (block.1 (k + 2)) (block.1 (k + 3)) in
    let opened = rw (next, third, second, first) at (open_four b k (omega arith)) in
    let right : take (4 * suc n) (drop k b)
    ≡ slice_index b k ∷ slice_index b (k + 1) ∷ slice_index b (k + 2) ∷ slice_index b (k + 3) ∷ take (4 * n) (drop (4 * (i + 1)) b) =
    rw (count, opened) refl in
    ap (λ (l : List ℕ). l ++ word_bytes (words_at b (i + 1) n)) four
    ∙ ap (λ (l : List ℕ). slice_index b k ∷ slice_index b (k + 1) ∷ slice_index b (k + 2) ∷ slice_index b (k + 3) ∷ l) rest
    ∙ sym right

-- bytes, and zeros up to a block
pub IsBlock_padded : (bytes block : List ℕ) → block ≡ bytes ++ replicate (64 - length bytes) 0 → length bytes ≤ 64
    → ((k : ℕ) → Fits w8 (get_or bytes k 0)) → IsBlock block
IsBlock_padded bytes block is small fits =
    let zeros : List ℕ = replicate (64 - length bytes) 0 in
    let len : length zeros ≡ 64 - length bytes = length-replicate {A = ℕ} (64 - length bytes) 0 in
    rw is (
      omega (arith, length-append bytes zeros),
      λ k.
          elim (cases_lt k (length bytes)) [
            | inl inside ↦ rw (get_or_append_left bytes zeros 0 k inside) ((fits k).fits)
            | inr past ↦
                rw (get_or-append_right bytes zeros (length bytes) k 0 refl past)
                (elim (cases_lt (k - length bytes) (64 - length bytes)) [
                  | inl low ↦ rw (get_or-replicate {A = ℕ} (64 - length bytes) (k - length bytes) 0 0 low) (lit< tt)
                  | inr high ↦ rw (get_or_past zeros (k - length bytes) 0 (omega arith)) (lit< tt)
                ])
          ],
    )

-- the first bytes of such a block
pub take_padded : (n : ℕ) (bytes : List ℕ) → n ≤ 64 → length bytes ≤ n
    → take n (bytes ++ replicate (64 - length bytes) 0) ≡ bytes ++ replicate (n - length bytes) 0
take_padded n bytes low small =
    let l : ℕ = length bytes in
    let place : n ≡ l + (n - l) = omega arith in
    ap (λ (k : ℕ). take k (bytes ++ replicate (64 - l) 0)) place
    ∙ take-append-add bytes (replicate (64 - l) 0) (n - l)
    ∙ ap (λ (z : List ℕ). bytes ++ z) (take-replicate (n - l) (64 - l) 0 (omega arith))

-- a choice of each word is a choice of all bytes
pub chosen_bytes : (b : Bool) (a0 a1 a2 a3 a4 a5 a6 a7 b0 b1 b2 b3 b4 b5 b6 b7 : ℕ)
    → word_bytes (cond b a0 b0 ∷ cond b a1 b1 ∷ cond b a2 b2 ∷ cond b a3 b3 ∷ cond b a4 b4 ∷ cond b a5 b5 ∷ cond b a6 b6 ∷ cond b a7 b7 ∷ [])
    ≡ cond b (word_bytes (a0 ∷ a1 ∷ a2 ∷ a3 ∷ a4 ∷ a5 ∷ a6 ∷ a7 ∷ [])) (word_bytes (b0 ∷ b1 ∷ b2 ∷ b3 ∷ b4 ∷ b5 ∷ b6 ∷ b7 ∷ []))
chosen_bytes true a0 a1 a2 a3 a4 a5 a6 a7 b0 b1 b2 b3 b4 b5 b6 b7 = refl
chosen_bytes false a0 a1 a2 a3 a4 a5 a6 a7 b0 b1 b2 b3 b4 b5 b6 b7 = refl

-- the bytes of a word of 32 bits are those of its number
low_bytes : (x : ℕ) → to_be_bytes w32 (x % 2 ^ 32) ≡ to_be_bytes w32 x
low_bytes x = cons (omega arith) (cons (omega arith) (cons (omega arith) (cons (omega arith) refl)))

front_bytes : (x y : ℕ) → x < 2 ^ 32 → y < 2 ^ 32
    → to_be_bytes w32 (front_word x y) ≡ take 2 (to_be_bytes w32 x) ++ take 2 (to_be_bytes w32 y)
front_bytes x y fits other = cons (omega arith) (cons (omega arith) (cons (omega arith) (cons (omega arith) refl)))

middle_bytes : (x y : ℕ) → x < 2 ^ 32 → y < 2 ^ 32
    → to_be_bytes w32 (middle_word x y) ≡ drop 2 (to_be_bytes w32 x) ++ take 2 (to_be_bytes w32 y)
middle_bytes x y fits other = cons (omega arith) (cons (omega arith) (cons (omega arith) (cons (omega arith) refl)))

-- the last two fields of a head
pub numbered_bytes : (w0 w1 w2 w3 w4 w5 x : ℕ) → w3 < 2 ^ 32
    → take 22 (word_bytes (w0 ∷ w1 ∷ w2 ∷ front_word w3 (x % 2 ^ 32) ∷ middle_word (x % 2 ^ 32) 0 ∷ 0 ∷ []))
    ≡ take 14 (take 22 (word_bytes (w0 ∷ w1 ∷ w2 ∷ w3 ∷ w4 ∷ w5 ∷ []))) ++ (to_be_bytes w32 x ++ replicate 4 0)
numbered_bytes w0 w1 w2 w3 w4 w5 x fits =
    let small : x % 2 ^ 32 < 2 ^ 32 = mod-lt x (pow_pos 32) in
    let start : List ℕ → List ℕ = λ l. to_be_bytes w32 w0 ++ (to_be_bytes w32 w1 ++ (to_be_bytes w32 w2 ++ l)) in
    ap (λ (l : List ℕ). take 22 (start (l ++ word_bytes (middle_word (x % 2 ^ 32) 0 ∷ 0 ∷ [])))) (front_bytes w3 (x % 2 ^ 32) fits small)
    ∙ ap (λ (l : List ℕ). take 22 (start ((take 2 (to_be_bytes w32 w3) ++ take 2 (to_be_bytes w32 (x % 2 ^ 32))) ++ (l ++ word_bytes (0 ∷ [])))))
    (middle_bytes (x % 2 ^ 32) 0 small (lit< tt))
    ∙ ap (λ (l : List ℕ). take 14 (take 22 (word_bytes (w0 ∷ w1 ∷ w2 ∷ w3 ∷ w4 ∷ w5 ∷ []))) ++ (l ++ replicate 4 0)) (low_bytes x)

-- the last field of a head
pub ended_bytes : (w0 w1 w2 w3 w4 w5 x : ℕ) → w4 < 2 ^ 32
    → take 22 (word_bytes (w0 ∷ w1 ∷ w2 ∷ w3 ∷ front_word w4 (x % 2 ^ 32) ∷ middle_word (x % 2 ^ 32) 0 ∷ []))
    ≡ take 18 (take 22 (word_bytes (w0 ∷ w1 ∷ w2 ∷ w3 ∷ w4 ∷ w5 ∷ []))) ++ to_be_bytes w32 x
ended_bytes w0 w1 w2 w3 w4 w5 x fits =
    let small : x % 2 ^ 32 < 2 ^ 32 = mod-lt x (pow_pos 32) in
    let start : List ℕ → List ℕ = λ l. to_be_bytes w32 w0 ++ (to_be_bytes w32 w1 ++ (to_be_bytes w32 w2 ++ (to_be_bytes w32 w3 ++ l))) in
    ap (λ (l : List ℕ). take 22 (start (l ++ word_bytes (middle_word (x % 2 ^ 32) 0 ∷ [])))) (front_bytes w4 (x % 2 ^ 32) fits small)
    ∙ ap (λ (l : List ℕ). take 22 (start ((take 2 (to_be_bytes w32 w4) ++ take 2 (to_be_bytes w32 (x % 2 ^ 32))) ++ (l ++ []))))
    (middle_bytes (x % 2 ^ 32) 0 small (lit< tt))
    ∙ ap (λ (l : List ℕ). take 18 (take 22 (word_bytes (w0 ∷ w1 ∷ w2 ∷ w3 ∷ w4 ∷ w5 ∷ []))) ++ l) (low_bytes x)

-- the last field of a head, where its first half is 0 before and after
pub stepped_bytes : (w0 w1 w2 w3 w4 w5 x : ℕ) → w4 < 2 ^ 32 → w4 % 2 ^ 16 ≡ 0 → x < 2 ^ 16
    → take 22 (word_bytes (w0 ∷ w1 ∷ w2 ∷ w3 ∷ w4 ∷ x * 2 ^ 16 % 2 ^ 32 % 2 ^ 32 ∷ []))
    ≡ take 18 (take 22 (word_bytes (w0 ∷ w1 ∷ w2 ∷ w3 ∷ w4 ∷ w5 ∷ []))) ++ to_be_bytes w32 x
stepped_bytes w0 w1 w2 w3 w4 w5 x fits none low =
    let front : front_word w4 (x % 2 ^ 32) ≡ w4 = omega arith in
    let middle : middle_word (x % 2 ^ 32) 0 ≡ x * 2 ^ 16 % 2 ^ 32 % 2 ^ 32 = omega arith in
    rw (front, middle) at (ended_bytes w0 w1 w2 w3 w4 w5 x fits)

-- all of the bytes, and no zero
pub take_padded_all : (n : ℕ) (bytes : List ℕ) → n ≤ 64 → length bytes ≡ n
    → take n (bytes ++ replicate (64 - length bytes) 0) ≡ bytes
take_padded_all n bytes low same =
    let none : n - length bytes ≡ 0 = omega arith in
    take_padded n bytes low (omega arith) ∙ rw none (append-nil bytes)
