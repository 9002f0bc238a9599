-- The schedules of eight blocks, and blocks eight at a time.
use Rattle.std.proofs.Common.{◌≡◌, ℕ, ◌+◌, ◌-◌, ◌*◌, ◌/◌, ◌%◌, ◌^◌, ◌<◌, ◌≤◌, List, [], length, take, drop, replicate, slice_index, slice_index_or, slice_set, refl, sym, ap, ◌∙◌, arith, inl, inr, get_or-take, get_or-drop, length-drop}
use Rattle.std.proofs.lemmas.Bool.{cases_lt}
use Rattle.std.proofs.lemmas.List.{get_or-replicate, get_or-set_same, get_or-set_other, length-take-le, take-append-drop}
use Rattle.sha256_lanes.specs.Batches.{IsFilled, batch_at, block_in}
use Rattle.sha256_lanes.specs.Eight.{word_in}
use Rattle.sha256_lanes.specs.Rounds.{next_in}
use Rattle.sha256_lanes.specs.Sha256.{block_word, constants, fold_blocks, schedule, sum32}
use Rattle.sha256_lanes.specs.declared.bulk.Schedules.{Schedules}
use Rattle.sha256_lanes.proofs.Fours.{sum_constant}
use Rattle.sha256_lanes.proofs.Folding.{fold_blocks-add, fold_blocks-append}
use Rattle.sha256_lanes.proofs.Schedule.{block_word_is, later_word_is, schedule_same}

-- word t of block j, as it stands in the eight blocks
pub first_word : (p : List ℕ) (j t start : ℕ) → t < 16 → start ≡ 4 * t + 64 * j → block_word p start ≡ slice_index (schedule (block_in p j) 64) t
first_word p j t start low is =
    let at : (i : ℕ) → i < 64 → slice_index (block_in p j) i ≡ slice_index p (64 * j + i) =
    λ i below. get_or-take 64 (drop (64 * j) p) i 0 below ∙ get_or-drop (64 * j) p i 0 in
    let place : (i : ℕ) → 64 * j + (4 * t + i) ≡ start + i = λ i. omega (arith, is) in
    let none : 64 * j + 4 * t ≡ start = omega (arith, is) in
    sym (schedule_same (block_in p j) 64 80 t (omega arith) (omega arith) ∙ block_word_is (block_in p j) t low
    ∙ rw (
      at (4 * t) (omega arith),
      at (4 * t + 1) (omega arith),
      at (4 * t + 2) (omega arith),
      at (4 * t + 3) (omega arith),
      none,
      place 1,
      place 2,
      place 3,
    ) refl)

-- no word yet
pub filled_none : (s : Schedules) (p : List ℕ) → IsFilled s p 0
unfolding IsFilled
filled_none s p = (λ t j low. absurd (omega (arith, low)), λ t j low. absurd (omega (arith, low)))

pub filled_at : (s : Schedules) (p : List ℕ) (n k : ℕ) → n ≡ k → IsFilled s p n → IsFilled s p k
filled_at s p n k same filled = rw (← same) filled

pub filled_of : (s : Schedules) (p q : List ℕ) (n : ℕ) → p ≡ q → IsFilled s p n → IsFilled s q n
filled_of s p q n same filled = rw (← same) filled

-- a word of a place
pub filled_word : (s : Schedules) (p : List ℕ) (n t j : ℕ) → IsFilled s p n → t < n → j < 8
    → word_in (slice_index_or s.words t []) j ≡ slice_index (schedule (block_in p j) 64) t
unfolding IsFilled
filled_word s p n t j filled low lane = filled.0 t j low lane

pub filled_keyed : (s : Schedules) (p : List ℕ) (n t j : ℕ) → IsFilled s p n → t < n → j < 8
    → word_in (slice_index_or s.keyed t []) j ≡ sum32 (slice_index (schedule (block_in p j) 64) t) (slice_index constants t)
unfolding IsFilled
filled_keyed s p n t j filled low lane = filled.1 t j low lane

-- a later word of a schedule, from the places before it
pub filled_next : (s : Schedules) (p : List ℕ) (t j x : ℕ) → IsFilled s p t → 16 ≤ t → t < 64 → j < 8
    → x ≡ next_in (word_in (slice_index_or s.words (t - 16) []) j) (word_in (slice_index_or s.words (t - 15) []) j)
    (word_in (slice_index_or s.words (t - 7) []) j) (word_in (slice_index_or s.words (t - 2) []) j)
    → x ≡ slice_index (schedule (block_in p j) 64) t
filled_next s p t j x filled late within lane is =
    let at : (d : ℕ) → 0 < d → d ≤ 16 → word_in (slice_index_or s.words (t - d) []) j ≡ slice_index (schedule (block_in p j) 64) (t - d) =
    λ d some few. filled_word s p t (t - d) j filled (omega (arith, some, few, late)) lane in
    is
    ∙ rw (at 16 (omega arith) (omega arith), at 15 (omega arith) (omega arith), at 7 (omega arith) (omega arith), at 2 (omega arith) (omega arith))
    (sym (later_word_is (block_in p j) 64 t late within))

-- a word with the constant of its round, which stands in each lane
pub keyed_is : (w k x j : ℕ) (word : List ℕ) → j < 8 → word_in word j ≡ w → x ≡ sum32 (word_in word j) (word_in (replicate 8 k) j) → x ≡ sum32 w k
keyed_is w k x j word lane word_is made =
    made ∙ ap (λ (y : ℕ). sum32 y (word_in (replicate 8 k) j)) word_is
    ∙ ap (λ (y : ℕ). sum32 w (y % 2 ^ 32)) (get_or-replicate {A = ℕ} 8 j k 0 lane) ∙ sum_constant w k

placed : (xs : List (List ℕ)) (x : List ℕ) (t i j f : ℕ) (F : ℕ → ℕ) → t < length xs
    → ((k : ℕ) → k < t → word_in (slice_index_or xs k []) j ≡ F k) → word_in x j ≡ F t → i < t + 1
    → word_in (slice_index_or (slice_set xs t x) i []) j ≡ F i
placed xs x t i j f F inside before here low =
    elim (cases_lt i t) [
      | inl below ↦ ap (λ (l : List ℕ). word_in l j) (get_or-set_other xs t i x [] (λ same. absurd (omega (arith, same, below)))) ∙ before i below
      | inr last ↦
          let same : i ≡ t = omega (arith, low, last) in
          rw same (ap (λ (l : List ℕ). word_in l j) (get_or-set_same xs t x [] inside) ∙ here)
    ]

-- one place more
pub filled_more : (old next : Schedules) (p : List ℕ) (t : ℕ) (word keyed : List ℕ) → IsFilled old p t
    → t < length old.words → t < length old.keyed
    → next.words ≡ slice_set old.words t word → next.keyed ≡ slice_set old.keyed t keyed
    → ((j : ℕ) → j < 8 → word_in word j ≡ slice_index (schedule (block_in p j) 64) t)
    → ((j : ℕ) → j < 8 → word_in keyed j ≡ sum32 (slice_index (schedule (block_in p j) 64) t) (slice_index constants t))
    → IsFilled next p (t + 1)
unfolding IsFilled
filled_more old next p t word keyed filled in_words in_keyed words keys word_is keyed_is = (
  λ i j low lane.
      rw words (placed old.words word t i j 0 (λ k. slice_index (schedule (block_in p j) 64) k) in_words (λ k below. filled.0 k j below lane) (word_is j lane) low),
  λ i j low lane.
      rw keys (placed old.keyed keyed t i j 0 (λ k. sum32 (slice_index (schedule (block_in p j) 64) k) (slice_index constants k)) in_keyed
      (λ k below. filled.1 k j below lane) (keyed_is j lane) low),
)

-- only the blocks that are counted matter
fold_blocks-take : (h p : List ℕ) (k n : ℕ) → 64 * n ≤ k → k ≤ length p → fold_blocks h (take k p) n ≡ fold_blocks h p n
fold_blocks-take h p k n few inside =
    sym (fold_blocks-append h (take k p) (drop k p) n (omega (arith, length-take-le k p inside)))
    ∙ ap (λ (x : List ℕ). fold_blocks h x n) (take-append-drop k p)

-- eight blocks more
pub fold_blocks_batch : (h p : List ℕ) (i : ℕ) → 512 * i + 512 ≤ length p
    → fold_blocks (fold_blocks h p (8 * i)) (batch_at p i) 8 ≡ fold_blocks h p (8 * (i + 1))
fold_blocks_batch h p i inside =
    let place : 512 * i ≡ 64 * (8 * i) = omega arith in
    let count : 8 * (i + 1) ≡ 8 * i + 8 = omega arith in
    fold_blocks-take (fold_blocks h p (8 * i)) (drop (512 * i) p) 512 8 (omega arith) (omega (arith, length-drop (512 * i) p))
    ∙ ap (λ k. fold_blocks (fold_blocks h p (8 * i)) (drop k p) 8) place
    ∙ sym (rw count (fold_blocks-add h p (8 * i) 8))

-- the last batch
pub last_batch : (h p state : List ℕ) (i count : ℕ) → state ≡ fold_blocks h p (8 * (i - 1)) → i ≡ count → 1 ≤ count → 512 * count ≤ length p
    → fold_blocks state (batch_at p (i - 1)) 8 ≡ fold_blocks h p (8 * count)
last_batch h p state i count before is some inside =
    let all : i - 1 + 1 ≡ count = omega (arith, is, some) in
    ap (λ (s : List ℕ). fold_blocks s (batch_at p (i - 1)) 8) before
    ∙ fold_blocks_batch h p (i - 1) (omega (arith, is, some, inside)) ∙ ap (λ (n : ℕ). fold_blocks h p (8 * n)) all

-- the batches, and then the blocks after them
pub fold_blocks_rest : (h p : List ℕ) (count : ℕ) → 512 * count ≤ length p
    → fold_blocks (fold_blocks h p (8 * count)) (drop (512 * count) p) (length (drop (512 * count) p) / 64) ≡ fold_blocks h p (length p / 64)
fold_blocks_rest h p count inside =
    let rest : ℕ = length (drop (512 * count) p) / 64 in
    let place : 512 * count ≡ 64 * (8 * count) = omega arith in
    let all : 8 * count + rest ≡ length p / 64 = omega (arith, length-drop (512 * count) p) in
    ap (λ k. fold_blocks (fold_blocks h p (8 * count)) (drop k p) rest) place
    ∙ sym (fold_blocks-add h p (8 * count) rest) ∙ ap (fold_blocks h p) all
