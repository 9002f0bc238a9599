-- The words of a block's schedule by their places, sixteen of them at a time, and the rounds one by one.
use Rattle.std.proofs.Common.{◌≡◌, ℕ, zero, suc, ◌+◌, ◌-◌, ◌*◌, ◌<◌, ◌≤◌, List, [], ◌∷◌, ◌++◌, ap, length, take, drop, slice_index, nat_lt, true, false, refl, sym, ◌∙◌, arith, inl, inr}
use Rattle.std.proofs.lemmas.List.{get_or_append_left, get_or_push, length_push, take_all, take_more}
use Rattle.sha256_lanes.proofs.EightWords.{cons}
use Rattle.std.proofs.lemmas.List.Sums.{fold-append}
use Rattle.std.proofs.lemmas.Slice.Zip.{get_or-zip, length-zip}
use Rattle.std.proofs.lemmas.Bool.{cases_lt, le-ltb, lt-ltb}
use Rattle.std.specs.Prelude.{zip}
use Rattle.sha256_lanes.specs.Sha256.{added_words, block_word, choose, compress, constants, later_word, round, schedule, schedule_word, sum32, temporary2, upper_sigma1}
use Rattle.sha256_lanes.specs.Rounds.{rounds_until, words_from, next_in, block_words, IsBefore}
use Rattle.word_lanes.proofs.Vectors.{below_sixteen}
use Rattle.word_lanes.proofs.Windows.{later_in, window_at, window_first, window_next}

pub length-schedule : (b : List ℕ) (n : ℕ) → length (schedule b n) ≡ n
unfolding schedule
length-schedule b zero = refl
length-schedule b (suc n) = omega (arith, length_push (schedule b n) (schedule_word b (schedule b n)), length-schedule b n)

-- the word at index s, which later words leave as it is
slice_index-schedule : (b : List ℕ) (n s : ℕ) → s < n → slice_index (schedule b n) s ≡ schedule_word b (schedule b s)
unfolding schedule
slice_index-schedule b zero s within = absurd (omega arith)
slice_index-schedule b (suc n) s within =
    let count = length-schedule b n in
    elim (cases_lt s n) [
      | inl before ↦ get_or_append_left (schedule b n) _ 0 s (omega arith) ∙ slice_index-schedule b n s before
      | inr last ↦
          let same : s ≡ n = omega arith in
          rw same (get_or_push (schedule b n) (schedule_word b (schedule b n)) 0 n count)
    ]

-- one more round
pub rounds_until_next : (h b : List ℕ) (t : ℕ) → t < 64
    → rounds_until h b (t + 1) ≡ round (rounds_until h b t) (slice_index constants t) (slice_index (schedule b 64) t)
unfolding rounds_until
rounds_until_next h b t within =
    let words = length-schedule b 64 in
    let many : length (zip constants (schedule b 64)) ≡ 64 = length-zip constants (schedule b 64) ∙ rw words refl in
    let pair = get_or-zip constants (schedule b 64) t (0, 0) within (omega arith) in
    rw (take_more (zip constants (schedule b 64)) t (0, 0) (omega arith), pair)
    (fold-append (λ u p. round u p.0 p.1) h (take t (zip constants (schedule b 64))) _)

-- the whole of the rounds
pub compress-rounds_until : (h b : List ℕ) → compress h b ≡ added_words h (rounds_until h b 64)
unfolding compress rounds_until
compress-rounds_until h b =
    let words = length-schedule b 64 in
    let many : length (zip constants (schedule b 64)) ≡ 64 = length-zip constants (schedule b 64) ∙ rw words refl in
    rw (take_all 64 (zip constants (schedule b 64)) (omega arith)) refl

pub rounds_until_none : (h b : List ℕ) → h ≡ rounds_until h b 0
unfolding rounds_until
rounds_until_none h b = refl

-- a word is the same in each schedule that has it
pub schedule_same : (b : List ℕ) (m n s : ℕ) → s < m → s < n → slice_index (schedule b m) s ≡ slice_index (schedule b n) s
schedule_same b m n s in_m in_n = slice_index-schedule b m s in_m ∙ sym (slice_index-schedule b n s in_n)

-- each later word follows from those before it
pub later_word_is : (b : List ℕ) (n t : ℕ) → 16 ≤ t → t < n → slice_index (schedule b n) t ≡ later_word (schedule b n) t
later_word_is b n t late within =
    let count : length (schedule b t) ≡ t = length-schedule b t in
    let no : nat_lt t 16 ≡ false = le-ltb t 16 late in
    let w2 = schedule_same b t n (t - 2) (omega arith) (omega arith) in
    let w7 = schedule_same b t n (t - 7) (omega arith) (omega arith) in
    let w15 = schedule_same b t n (t - 15) (omega arith) (omega arith) in
    let w16 = schedule_same b t n (t - 16) (omega arith) (omega arith) in
    slice_index-schedule b n t within ∙ rw (count, no, w2, w7, w15, w16) refl

pub block_word_is : (b : List ℕ) (k : ℕ) → k < 16 → slice_index (schedule b 80) k ≡ block_word b (4 * k)
block_word_is b k low =
    let count : length (schedule b k) ≡ k = length-schedule b k in
    let yes : nat_lt k 16 ≡ true = lt-ltb k 16 low in
    slice_index-schedule b 80 k (omega arith) ∙ rw (count, yes) refl

-- the first sixteen words are the block's
pub block_words_are : (b : List ℕ) → block_words b ≡ words_from b 0
unfolding words_from
block_words_are b =
    window_first (schedule b 80) (block_words b) (omega (arith, length-schedule b 80)) refl (λ k low.
    below_sixteen (λ k. slice_index (block_words b) k ≡ block_word b (4 * k)) refl refl refl refl refl refl refl refl refl refl refl refl refl refl refl refl k low
    ∙ sym (block_word_is b k low))

-- a word of the window is the schedule's
pub window_word : (b w : List ℕ) (t k : ℕ) → k < 16 → t + k < 64 → w ≡ words_from b t → slice_index w k ≡ slice_index (schedule b 64) (t + k)
unfolding words_from
window_word b w t k low within is =
    window_at (schedule b 80) w t is k low ∙ schedule_same b 80 64 (t + k) (omega arith) within

-- one more round
pub round_done : (b h v : List ℕ) (t k x : ℕ) (next : List ℕ) → t < 64 → v ≡ rounds_until h b t
    → k ≡ slice_index constants t → x ≡ slice_index (schedule b 64) t → next ≡ round v k x → next ≡ rounds_until h b (t + 1)
round_done b h v t k x next within done constant word made =
    rw (rounds_until_next h b t within, ← word, ← constant, ← done) made

-- the word at the front gone, and another at the end
abbrev pub pushed : List ℕ → ℕ → List ℕ
pushed w x = drop 1 w ++ x ∷ []

word_done : (b w : List ℕ) (t x : ℕ) → t < 64 → w ≡ words_from b t → x ≡ later_in next_in w → pushed w x ≡ words_from b (t + 1)
unfolding words_from
word_done b w t x within is word =
    let s = schedule b 80 in
    let long : t + 16 < length s = omega (arith, length-schedule b 80) in
    let follows = later_word_is b 80 (t + 16) (omega arith) (omega arith) in
    window_next s w t is next_in (pushed w x) long follows (ap (pushed w) word)

-- one step: a round, and the window one word on
pub step_done : (h b v w : List ℕ) (t k x : ℕ) (next_v next_w : List ℕ) → t < 64 → IsBefore h b t v w
    → k ≡ slice_index constants t → x ≡ slice_index w 0 → next_v ≡ round v k x → next_w ≡ drop 1 w ++ later_in next_in w ∷ []
    → IsBefore h b (t + 1) next_v next_w
unfolding words_from
step_done h b v w t k x next_v next_w within before constant word made slid =
    let s = schedule b 80 in
    let place : t + 0 ≡ t = omega arith in
    let first : x ≡ slice_index (schedule b 64) t =
    word ∙ window_at s w t before.1 0 (omega arith) ∙ ap (slice_index s) place ∙ schedule_same b 80 64 t (omega arith) within in
    (round_done b h v t k x next_v within before.0 constant first made, slid ∙ word_done b w t _ within before.1 refl)

-- the same round, spelled another way
pub IsBefore_at : (h b v w : List ℕ) (n k : ℕ) → n ≡ k → IsBefore h b n v w → IsBefore h b k v w
IsBefore_at h b v w n k same before = rw (← same) before

-- the window four words on
pub four_words_done : (b w : List ℕ) (t x0 x1 x2 x3 : ℕ) → t + 4 ≤ 64 → w ≡ words_from b t
    → x0 ≡ later_in next_in w → x1 ≡ later_in next_in (pushed w x0) → x2 ≡ later_in next_in (pushed (pushed w x0) x1)
    → x3 ≡ later_in next_in (pushed (pushed (pushed w x0) x1) x2)
    → pushed (pushed (pushed (pushed w x0) x1) x2) x3 ≡ words_from b (t + 4)
four_words_done b w t x0 x1 x2 x3 within is p0 p1 p2 p3 =
    let one : pushed w x0 ≡ words_from b (t + 1) = word_done b w t x0 (omega arith) is p0 in
    let two : pushed (pushed w x0) x1 ≡ words_from b (t + 2) =
    word_done b (pushed w x0) (t + 1) x1 (omega arith) one p1 ∙ ap (words_from b) (omega arith) in
    let three : pushed (pushed (pushed w x0) x1) x2 ≡ words_from b (t + 3) =
    word_done b (pushed (pushed w x0) x1) (t + 2) x2 (omega arith) two p2 ∙ ap (words_from b) (omega arith) in
    word_done b (pushed (pushed (pushed w x0) x1) x2) (t + 3) x3 (omega arith) three p3 ∙ ap (words_from b) (omega arith)

-- a sum with what two words share
pub sum_shared : (p s w : ℕ) → sum32 p (sum32 s w) ≡ sum32 (sum32 p s) w
sum_shared p s w = omega arith

sum_later : (p q x : ℕ) → sum32 (sum32 (sum32 p 0) q) x ≡ sum32 (sum32 p x) q
sum_later p q x = omega arith

sum_under : (d p x : ℕ) → sum32 (sum32 d (sum32 p 0)) x ≡ sum32 d (sum32 p x)
sum_under d p x = omega arith

-- the word of a round comes into two of the variables after it
pub round_word : (v u : List ℕ) (k x : ℕ) → v ≡ round u k 0
    → sum32 (slice_index v 0) x ∷ slice_index v 1 ∷ slice_index v 2 ∷ slice_index v 3
    ∷ sum32 (slice_index v 4) x ∷ slice_index v 5 ∷ slice_index v 6 ∷ slice_index v 7 ∷ []
    ≡ round u k x
round_word v u k x made =
    let p : ℕ = sum32 (sum32 (sum32 (slice_index u 7) (upper_sigma1 (slice_index u 4))) (choose (slice_index u 4) (slice_index u 5) (slice_index u 6))) k in
    let both : List ℕ → List ℕ = λ l.
    sum32 (slice_index l 0) x ∷ slice_index l 1 ∷ slice_index l 2 ∷ slice_index l 3
    ∷ sum32 (slice_index l 4) x ∷ slice_index l 5 ∷ slice_index l 6 ∷ slice_index l 7 ∷ [] in
    ap both made
    ∙ cons (sum_later p (temporary2 u) x) (cons refl (cons refl (cons refl (cons (sum_under (slice_index u 3) p x) refl))))
