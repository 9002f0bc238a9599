-- The schedules of four blocks, and blocks four at a time.
use Rattle.std.proofs.Common.{◌≡◌, ℕ, zero, suc, ◌+◌, ◌-◌, ◌*◌, ◌/◌, ◌%◌, ◌^◌, ◌<◌, ◌≤◌, List, [], length, take, drop, replicate, slice_index, slice_index_or, slice_set, refl, sym, ap, ◌∙◌, arith, inl, inr, get_or-take, get_or-drop, length-drop}
use Rattle.std.proofs.lemmas.Bool.{cases_lt}
use Rattle.std.proofs.lemmas.List.{drop-drop, get_or-replicate, get_or-set_same, get_or-set_other, length-take-le, take-append-drop}
use Rattle.sha2.proofs.Absorbing512.{hash_after-append, hash_after_next}
use Rattle.sha2.proofs.Schedule512.{slice_index-schedule_first, slice_index-schedule_next}
use Rattle.sha2.specs.Sha512.{add64, compress, hash_after, round_constants, schedule, word_at}
use Rattle.sha512_lanes.specs.Batches.{IsFilled, batch_at, block_in, word_in}
use Rattle.sha512_lanes.specs.Steps.{next_in}
use Rattle.sha512_lanes.specs.declared.bulk.Schedules.{Schedules}
use Rattle.sha512_lanes.proofs.Fours.{sum_constant}

-- word t of block j, as it stands in the four blocks
pub first_word : (p : List ℕ) (j t start : ℕ) → t < 16 → start ≡ 8 * t + 128 * j → word_at p start ≡ slice_index (schedule (block_in p j) 64) t
first_word p j t start low is =
    let at : (i : ℕ) → i < 128 → slice_index (block_in p j) i ≡ slice_index p (j * 128 + i) =
    λ i below. get_or-take 128 (drop (j * 128) p) i 0 below ∙ get_or-drop (j * 128) p i 0 in
    let place : (i : ℕ) → j * 128 + (8 * t + i) ≡ start + i = λ i. omega (arith, is) in
    let none : j * 128 + 8 * t ≡ start = omega (arith, is) in
    sym (slice_index-schedule_first (block_in p j) 64 t low
    ∙ rw (
      at (8 * t) (omega arith),
      at (8 * t + 1) (omega arith),
      at (8 * t + 2) (omega arith),
      at (8 * t + 3) (omega arith),
      at (8 * t + 4) (omega arith),
      at (8 * t + 5) (omega arith),
      at (8 * t + 6) (omega arith),
      at (8 * t + 7) (omega arith),
      none,
      place 1,
      place 2,
      place 3,
      place 4,
      place 5,
      place 6,
      place 7,
    ) refl)

-- no word yet
pub filled_none : (s : Schedules) (p : List ℕ) → IsFilled s p 0
unfolding IsFilled
filled_none s p = (λ t j low. absurd (omega (arith, low)), λ t j low. absurd (omega (arith, low)))

pub filled_at : (s : Schedules) (p : List ℕ) (n k : ℕ) → n ≡ k → IsFilled s p n → IsFilled s p k
filled_at s p n k same filled = rw (← same) filled

pub filled_of : (s : Schedules) (p q : List ℕ) (n : ℕ) → p ≡ q → IsFilled s p n → IsFilled s q n
filled_of s p q n same filled = rw (← same) filled

-- a word of a place
pub filled_word : (s : Schedules) (p : List ℕ) (n t j : ℕ) → IsFilled s p n → t < n → j < 4
    → word_in (slice_index_or s.words t []) j ≡ slice_index (schedule (block_in p j) 64) t
unfolding IsFilled
filled_word s p n t j filled low lane = filled.0 t j low lane

pub filled_keyed : (s : Schedules) (p : List ℕ) (n t j : ℕ) → IsFilled s p n → t < n → j < 4
    → word_in (slice_index_or s.keyed t []) j ≡ add64 (slice_index (schedule (block_in p j) 64) t) (slice_index round_constants t)
unfolding IsFilled
filled_keyed s p n t j filled low lane = filled.1 t j low lane

-- a later word of a schedule, from the places before it
pub filled_next : (s : Schedules) (p : List ℕ) (t j x : ℕ) → IsFilled s p t → 16 ≤ t → t < 80 → j < 4
    → x ≡ next_in (word_in (slice_index_or s.words (t - 16) []) j) (word_in (slice_index_or s.words (t - 15) []) j)
    (word_in (slice_index_or s.words (t - 7) []) j) (word_in (slice_index_or s.words (t - 2) []) j)
    → x ≡ slice_index (schedule (block_in p j) 64) t
filled_next s p t j x filled late within lane is =
    let at : (d : ℕ) → 0 < d → d ≤ 16 → word_in (slice_index_or s.words (t - d) []) j ≡ slice_index (schedule (block_in p j) 64) (t - d) =
    λ d some few. filled_word s p t (t - d) j filled (omega (arith, some, few, late)) lane in
    is
    ∙ rw (at 16 (omega arith) (omega arith), at 15 (omega arith) (omega arith), at 7 (omega arith) (omega arith), at 2 (omega arith) (omega arith))
    (sym (slice_index-schedule_next (block_in p j) 64 t late (omega (arith, within))))

-- what stands in the places after one more was put
pub put_in : (xs : List (List ℕ)) (x : List ℕ) (t i : ℕ) (F : ℕ → List ℕ) → t < length xs
    → ((k : ℕ) → k < t → slice_index_or xs k [] ≡ F k) → x ≡ F t → i < t + 1 → slice_index_or (slice_set xs t x) i [] ≡ F i
put_in xs x t i F inside before here low =
    elim (cases_lt i t) [
      | inl below ↦ get_or-set_other xs t i x [] (λ same. absurd (omega (arith, same, below))) ∙ before i below
      | inr last ↦
          let same : i ≡ t = omega (arith, low, last) in
          rw same (get_or-set_same xs t x [] inside ∙ here)
    ]

-- a word with the constant of its round, which stands in each lane
pub keyed_is : (w k x j : ℕ) (word : List ℕ) → j < 4 → word_in word j ≡ w → x ≡ add64 (word_in word j) (word_in (replicate 4 k) j) → x ≡ add64 w k
keyed_is w k x j word lane word_is made =
    made ∙ ap (λ (y : ℕ). add64 y (word_in (replicate 4 k) j)) word_is
    ∙ ap (λ (y : ℕ). add64 w (y % 2 ^ 64)) (get_or-replicate {A = ℕ} 4 j k 0 lane) ∙ sum_constant w k

placed : (xs : List (List ℕ)) (x : List ℕ) (t i j f : ℕ) (F : ℕ → ℕ) → t < length xs
    → ((k : ℕ) → k < t → word_in (slice_index_or xs k []) j ≡ F k) → word_in x j ≡ F t → i < t + 1
    → word_in (slice_index_or (slice_set xs t x) i []) j ≡ F i
placed xs x t i j f F inside before here low =
    elim (cases_lt i t) [
      | inl below ↦ ap (λ (l : List ℕ). word_in l j) (get_or-set_other xs t i x [] (λ same. absurd (omega (arith, same, below)))) ∙ before i below
      | inr last ↦
          let same : i ≡ t = omega (arith, low, last) in
          rw same (ap (λ (l : List ℕ). word_in l j) (get_or-set_same xs t x [] inside) ∙ here)
    ]

-- one place more
pub filled_more : (old next : Schedules) (p : List ℕ) (t : ℕ) (word keyed : List ℕ) → IsFilled old p t
    → t < length old.words → t < length old.keyed
    → next.words ≡ slice_set old.words t word → next.keyed ≡ slice_set old.keyed t keyed
    → ((j : ℕ) → j < 4 → word_in word j ≡ slice_index (schedule (block_in p j) 64) t)
    → ((j : ℕ) → j < 4 → word_in keyed j ≡ add64 (slice_index (schedule (block_in p j) 64) t) (slice_index round_constants t))
    → IsFilled next p (t + 1)
unfolding IsFilled
filled_more old next p t word keyed filled in_words in_keyed words keys word_is keyed_is = (
  λ i j low lane.
      rw words (placed old.words word t i j 0 (λ k. slice_index (schedule (block_in p j) 64) k) in_words (λ k below. filled.0 k j below lane) (word_is j lane) low),
  λ i j low lane.
      rw keys (placed old.keyed keyed t i j 0 (λ k. add64 (slice_index (schedule (block_in p j) 64) k) (slice_index round_constants k)) in_keyed
      (λ k below. filled.1 k j below lane) (keyed_is j lane) low),
)

-- ---- blocks one after the other

pub none_yet : (h p : List ℕ) → hash_after h p 0 ≡ h
unfolding hash_after
none_yet h p = refl

-- some blocks, and then the others
pub hash_after-add : (h p : List ℕ) (k n : ℕ) → hash_after h p (k + n) ≡ hash_after (hash_after h p k) (drop (k * 128) p) n
hash_after-add h p k zero =
    let none : k + 0 ≡ k = omega arith in
    rw none (sym (none_yet (hash_after h p k) (drop (k * 128) p)))
hash_after-add h p k (suc n) =
    let count : k + suc n ≡ (k + n) + 1 = omega arith in
    let up : n + 1 ≡ suc n = omega arith in
    let place : (k + n) * 128 ≡ k * 128 + n * 128 = omega arith in
    let there : drop ((k + n) * 128) p ≡ drop (n * 128) (drop (k * 128) p) =
    ap (λ (i : ℕ). drop i p) place ∙ sym (drop-drop (n * 128) (k * 128) p) in
    ap (hash_after h p) count ∙ hash_after_next h p (k + n)
    ∙ ap (λ (x : List ℕ). compress x (take 128 (drop ((k + n) * 128) p))) (hash_after-add h p k n)
    ∙ ap (λ (x : List ℕ). compress (hash_after (hash_after h p k) (drop (k * 128) p) n) (take 128 x)) there
    ∙ sym (hash_after_next (hash_after h p k) (drop (k * 128) p) n)
    ∙ ap (hash_after (hash_after h p k) (drop (k * 128) p)) up

-- only the blocks that are counted matter
hash_after-take : (h p : List ℕ) (k n : ℕ) → n * 128 ≤ k → k ≤ length p → hash_after h (take k p) n ≡ hash_after h p n
hash_after-take h p k n few inside =
    sym (hash_after-append h (take k p) (drop k p) n (omega (arith, length-take-le k p inside)))
    ∙ ap (λ (x : List ℕ). hash_after h x n) (take-append-drop k p)

-- four blocks more
pub hash_after_batch : (h p : List ℕ) (i : ℕ) → 512 * i + 512 ≤ length p
    → hash_after (hash_after h p (4 * i)) (batch_at p i) 4 ≡ hash_after h p (4 * (i + 1))
hash_after_batch h p i inside =
    let place : 512 * i ≡ 4 * i * 128 = omega arith in
    let count : 4 * (i + 1) ≡ 4 * i + 4 = omega arith in
    hash_after-take (hash_after h p (4 * i)) (drop (512 * i) p) 512 4 (omega arith) (omega (arith, length-drop (512 * i) p))
    ∙ ap (λ k. hash_after (hash_after h p (4 * i)) (drop k p) 4) place
    ∙ sym (rw count (hash_after-add h p (4 * i) 4))

-- the last batch
pub last_batch : (h p state : List ℕ) (i count : ℕ) → state ≡ hash_after h p (4 * (i - 1)) → i ≡ count → 1 ≤ count → 512 * count ≤ length p
    → hash_after state (batch_at p (i - 1)) 4 ≡ hash_after h p (4 * count)
last_batch h p state i count before is some inside =
    let all : i - 1 + 1 ≡ count = omega (arith, is, some) in
    ap (λ (s : List ℕ). hash_after s (batch_at p (i - 1)) 4) before
    ∙ hash_after_batch h p (i - 1) (omega (arith, is, some, inside)) ∙ ap (λ (n : ℕ). hash_after h p (4 * n)) all

-- the batches, and then the blocks after them
pub hash_after_rest : (h p : List ℕ) (count : ℕ) → 512 * count ≤ length p
    → hash_after (hash_after h p (4 * count)) (drop (512 * count) p) (length (drop (512 * count) p) / 128) ≡ hash_after h p (length p / 128)
hash_after_rest h p count inside =
    let rest : ℕ = length (drop (512 * count) p) / 128 in
    let place : 512 * count ≡ 4 * count * 128 = omega arith in
    let all : 4 * count + rest ≡ length p / 128 = omega (arith, length-drop (512 * count) p) in
    ap (λ k. hash_after (hash_after h p (4 * count)) (drop k p) rest) place
    ∙ sym (hash_after-add h p (4 * count) rest) ∙ ap (hash_after h p) all

-- the first block
pub hash_after_one : (h p : List ℕ) → hash_after h p 1 ≡ compress h (block_in p 0)
hash_after_one h p = hash_after_next h p 0 ∙ ap (λ (x : List ℕ). compress x (block_in p 0)) (none_yet h p)
