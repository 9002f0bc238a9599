-- The words of a block's schedule, sixteen of them at a time, and the rounds one by one.
use Rattle.std.proofs.Common.{◌≡◌, ℕ, ◌+◌, ◌*◌, ◌<◌, ◌≤◌, List, [], ◌∷◌, ◌++◌, ap, length, drop, slice_index, refl, sym, ◌∙◌, arith}
use Rattle.sha2.specs.Sha512.{add_state, compress, round, round_constants, rounds, schedule, word_at}
use Rattle.sha2.proofs.Schedule512.{length-schedule, rounds_next, slice_index-schedule_first, slice_index-schedule_next}
use Rattle.sha512_lanes.specs.Steps.{words_from, next_in, block_words, IsBefore}
use Rattle.word_lanes.proofs.Vectors.{below_sixteen}
use Rattle.word_lanes.proofs.Windows.{later_in, window_at, window_first, window_next}

-- the whole of the rounds, and none
pub compress-rounds : (h b : List ℕ) → compress h b ≡ add_state h (rounds h (schedule b 64) 80)
unfolding compress
compress-rounds h b = refl

pub rounds_none : (h b : List ℕ) → h ≡ rounds h (schedule b 64) 0
unfolding rounds
rounds_none h b = refl

-- the first sixteen words are the block's
pub block_words_are : (b : List ℕ) → block_words b ≡ words_from b 0
unfolding words_from
block_words_are b =
    window_first (schedule b 64) (block_words b) (omega (arith, length-schedule b 64)) refl (λ k low.
    below_sixteen (λ k. slice_index (block_words b) k ≡ word_at b (8 * k)) refl refl refl refl refl refl refl refl refl refl refl refl refl refl refl refl k low
    ∙ sym (slice_index-schedule_first b 64 k low))

-- a word of the window is the schedule's
pub window_word : (b w : List ℕ) (t k : ℕ) → k < 16 → t + k < 80 → w ≡ words_from b t → slice_index w k ≡ slice_index (schedule b 64) (t + k)
unfolding words_from
window_word b w t k low within is = window_at (schedule b 64) w t is k low

-- one more round
pub round_done : (b h v : List ℕ) (t k x : ℕ) (next : List ℕ) → t < 80 → v ≡ rounds h (schedule b 64) t
    → k ≡ slice_index round_constants t → x ≡ slice_index (schedule b 64) t → next ≡ round v k x → next ≡ rounds h (schedule b 64) (t + 1)
round_done b h v t k x next within done constant word made =
    rw (rounds_next h (schedule b 64) t, ← word, ← constant, ← done) made

-- one step: a round, and the window one word on
pub step_done : (h b v w : List ℕ) (t k x : ℕ) (next_v next_w : List ℕ) → t < 64 → IsBefore h b t v w
    → k ≡ slice_index round_constants t → x ≡ slice_index w 0 → next_v ≡ round v k x → next_w ≡ drop 1 w ++ later_in next_in w ∷ []
    → IsBefore h b (t + 1) next_v next_w
unfolding words_from
step_done h b v w t k x next_v next_w within before constant word made slid =
    let s = schedule b 64 in
    let first : x ≡ slice_index s t = word ∙ window_at s w t before.1 0 (omega arith) ∙ ap (slice_index s) (omega arith) in
    let long : t + 16 < length s = omega (arith, length-schedule b 64) in
    let follows = slice_index-schedule_next b 64 (t + 16) (omega arith) (omega arith) in (
      round_done b h v t k x next_v (omega arith) before.0 constant first made,
      window_next s w t before.1 next_in next_w long follows slid,
    )

-- the same round, spelled another way
pub IsBefore_at : (h b v w : List ℕ) (n k : ℕ) → n ≡ k → IsBefore h b n v w → IsBefore h b k v w
IsBefore_at h b v w n k same before = rw (← same) before

-- the word at the front gone, and another at the end
abbrev pub pushed : List ℕ → ℕ → List ℕ
pushed w x = drop 1 w ++ x ∷ []

word_done : (b w : List ℕ) (t x : ℕ) → t < 64 → w ≡ words_from b t → x ≡ later_in next_in w → pushed w x ≡ words_from b (t + 1)
unfolding words_from
word_done b w t x within is word =
    let s = schedule b 64 in
    let long : t + 16 < length s = omega (arith, length-schedule b 64) in
    let follows = slice_index-schedule_next b 64 (t + 16) (omega arith) (omega arith) in
    window_next s w t is next_in (pushed w x) long follows (ap (pushed w) word)

-- the window four words on
pub four_words_done : (b w : List ℕ) (t x0 x1 x2 x3 : ℕ) → t + 4 ≤ 64 → w ≡ words_from b t
    → x0 ≡ later_in next_in w → x1 ≡ later_in next_in (pushed w x0) → x2 ≡ later_in next_in (pushed (pushed w x0) x1)
    → x3 ≡ later_in next_in (pushed (pushed (pushed w x0) x1) x2)
    → pushed (pushed (pushed (pushed w x0) x1) x2) x3 ≡ words_from b (t + 4)
four_words_done b w t x0 x1 x2 x3 within is p0 p1 p2 p3 =
    let one : pushed w x0 ≡ words_from b (t + 1) = word_done b w t x0 (omega arith) is p0 in
    let two : pushed (pushed w x0) x1 ≡ words_from b (t + 2) =
    word_done b (pushed w x0) (t + 1) x1 (omega arith) one p1 ∙ ap (words_from b) (omega arith) in
    let three : pushed (pushed (pushed w x0) x1) x2 ≡ words_from b (t + 3) =
    word_done b (pushed (pushed w x0) x1) (t + 2) x2 (omega arith) two p2 ∙ ap (words_from b) (omega arith) in
    word_done b (pushed (pushed (pushed w x0) x1) x2) (t + 3) x3 (omega arith) three p3 ∙ ap (words_from b) (omega arith)
