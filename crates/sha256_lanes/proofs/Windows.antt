-- The words of the block that a head, a value and the padding make.
use Rattle.std.proofs.Common.{◌≡◌, ℕ, zero, suc, ◌+◌, ◌*◌, ◌%◌, ◌^◌, ◌<◌, ◌⊎◌, List, [], ◌∷◌, ◌++◌, map, take, slice_index, slice_index_or, refl, inl, inr, arith, ap, mod-lt, pow_pos}
use Rattle.sha256_lanes.specs.Eight.{ended_block, ended_words, front_word, head_bytes, head_words, lane_bytes, middle_word, word_in}
use Rattle.sha256_lanes.specs.Rounds.{block_words}
use Rattle.sha256_lanes.specs.Sha256.{word_bytes}
use Rattle.sha256_lanes.specs.declared.lanes.Eight.{Eight}
use Rattle.sha256_lanes.specs.declared.lanes.Heads.{Heads}
use Rattle.sha256_lanes.proofs.EightWords.{cons}

-- a word of some rows in a lane
pub word_of : (rows : List (List ℕ)) (j i : ℕ) → word_in (slice_index_or rows i []) j ≡ slice_index (map (λ lanes. word_in lanes j) rows) i
word_of [] j i = refl
word_of (x ∷ rows) j zero = refl
word_of (x ∷ rows) j (suc i) = word_of rows j i

-- the window of the words of a head, and of a value with its ending
abbrev pub window_words : ℕ → ℕ → ℕ → ℕ → ℕ → ℕ → List ℕ → ℕ → List ℕ
window_words w0 w1 w2 w3 w4 w5 e bits =
    w0 ∷ w1 ∷ w2 ∷ w3 ∷ w4 ∷ front_word w5 (slice_index e 0)
    ∷ middle_word (slice_index e 0) (slice_index e 1) ∷ middle_word (slice_index e 1) (slice_index e 2)
    ∷ middle_word (slice_index e 2) (slice_index e 3) ∷ middle_word (slice_index e 3) (slice_index e 4)
    ∷ middle_word (slice_index e 4) (slice_index e 5) ∷ middle_word (slice_index e 5) (slice_index e 6)
    ∷ middle_word (slice_index e 6) (slice_index e 7) ∷ middle_word (slice_index e 7) (slice_index e 8)
    ∷ 0 ∷ bits ∷ []

module _ (w0 w1 w2 w3 w4 w5 v0 v1 v2 v3 v4 v5 v6 v7 : ℕ)
    (a0 : w0 < 2 ^ 32) (a1 : w1 < 2 ^ 32) (a2 : w2 < 2 ^ 32) (a3 : w3 < 2 ^ 32) (a4 : w4 < 2 ^ 32) (a5 : w5 < 2 ^ 32)
    (b0 : v0 < 2 ^ 32) (b1 : v1 < 2 ^ 32) (b2 : v2 < 2 ^ 32) (b3 : v3 < 2 ^ 32)
    (b4 : v4 < 2 ^ 32) (b5 : v5 < 2 ^ 32) (b6 : v6 < 2 ^ 32) (b7 : v7 < 2 ^ 32) where
  abbrev head : List ℕ
  head = take 22 (word_bytes (w0 ∷ w1 ∷ w2 ∷ w3 ∷ w4 ∷ w5 ∷ []))

  abbrev value : List ℕ
  value = v0 ∷ v1 ∷ v2 ∷ v3 ∷ v4 ∷ v5 ∷ v6 ∷ v7 ∷ []

  abbrev Meets : ℕ → Type 0
  Meets n = block_words (ended_block (head ++ take n (word_bytes value)) (86 + n))
      ≡ window_words w0 w1 w2 w3 w4 w5 (ended_words n value) (8 * (86 + n) % 2 ^ 32)

  window_of_16 : Meets 16
  window_of_16 =
      cons (omega arith) (cons (omega arith) (cons (omega arith) (cons (omega arith) (cons (omega arith) (cons (omega arith)
      (cons (omega arith) (cons (omega arith) (cons (omega arith) (cons (omega arith) refl)))))))))

  window_of_24 : Meets 24
  window_of_24 =
      cons (omega arith) (cons (omega arith) (cons (omega arith) (cons (omega arith) (cons (omega arith) (cons (omega arith)
      (cons (omega arith) (cons (omega arith) (cons (omega arith) (cons (omega arith) (cons (omega arith) (cons (omega arith)
      refl)))))))))))

  window_of_32 : Meets 32
  window_of_32 =
      cons (omega arith) (cons (omega arith) (cons (omega arith) (cons (omega arith) (cons (omega arith) (cons (omega arith)
      (cons (omega arith) (cons (omega arith) (cons (omega arith) (cons (omega arith) (cons (omega arith) (cons (omega arith)
      (cons (omega arith) (cons (omega arith) refl)))))))))))))

  pub window_of : (n : ℕ) → (n ≡ 16) ⊎ ((n ≡ 24) ⊎ (n ≡ 32)) → Meets n
  window_of n (inl e) = rw e window_of_16
  window_of n (inr (inl e)) = rw e window_of_24
  window_of n (inr (inr e)) = rw e window_of_32

-- the first words of such a block are those of the head
pub first_words : (heads : Heads) (values : Eight) (n j : ℕ) → (n ≡ 16) ⊎ ((n ≡ 24) ⊎ (n ≡ 32))
    → take 5 (block_words (ended_block (head_bytes heads j ++ take n (lane_bytes values j)) (86 + n))) ≡ take 5 (head_words heads j)
unfolding head_bytes lane_bytes
first_words heads values n j width =
    let v = values.words in
    ap (take 5) (window_of (word_in heads.w0 j) (word_in heads.w1 j) (word_in heads.w2 j) (word_in heads.w3 j) (word_in heads.w4 j) (word_in heads.w5 j)
    (word_in v.a j) (word_in v.b j) (word_in v.c j) (word_in v.d j) (word_in v.e j) (word_in v.f j) (word_in v.g j) (word_in v.h j)
    (mod-lt _ (pow_pos 32)) (mod-lt _ (pow_pos 32)) (mod-lt _ (pow_pos 32)) (mod-lt _ (pow_pos 32)) (mod-lt _ (pow_pos 32)) (mod-lt _ (pow_pos 32))
    (mod-lt _ (pow_pos 32)) (mod-lt _ (pow_pos 32)) (mod-lt _ (pow_pos 32)) (mod-lt _ (pow_pos 32)) (mod-lt _ (pow_pos 32)) (mod-lt _ (pow_pos 32)) (mod-lt _ (pow_pos 32)) (mod-lt _ (pow_pos 32))
    n width)
