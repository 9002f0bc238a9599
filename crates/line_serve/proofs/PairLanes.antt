-- Sixteen pairs of digits at once.
use Rattle.std.proofs.Common.{◌≡◌, ℕ, zero, suc, ◌+◌, ◌-◌, ◌*◌, ◌<◌, ◌≤◌, List, [], ◌∷◌, ◌++◌, Ok, Err, Result, inl, inr, length, slice_index, take, drop, refl, sym, ap, arith, ◌∙◌, length-take, length-drop, take-append-drop}
use Rattle.std.proofs.lemmas.Bool.{cases_lt}
use Rattle.std.proofs.lemmas.List.{get_or-append-add, get_or-drop, get_or-take, get_or_append_left, set-get_or, take_all}
use Rattle.hex.specs.Hex.{decode_pairs, pair_value}
use Rattle.hex.proofs.Pairs.{decode_step, prepend}
use Rattle.hex.specs.declared.error.FromHexError.{FromHexError}
use lib.Lanes.{chunk}

-- n entries of a table, from a on
abbrev pub table : (ℕ → ℕ) → ℕ → ℕ → List ℕ
table f a zero = []
table f a (suc n) = f a ∷ table f (a + 1) n

pub table-at : (f : ℕ → ℕ) (a n j : ℕ) → j < n → slice_index (table f a n) j ≡ f (a + j)
table-at f a zero j low = absurd (omega arith)
table-at f a (suc n) zero low =
    let e : a ≡ a + 0 = omega arith in
    ap f e
table-at f a (suc n) (suc j) low =
    let e : a + 1 + j ≡ a + suc j = omega arith in
    table-at f (a + 1) n j (omega arith) ∙ ap f e

-- the two halves of a block are the block
pub halves : (d : List ℕ) → length d ≡ 32 → chunk 0 16 (take 16 d) ++ take 16 (drop 16 d) ≡ d
halves d e =
    let front : take 16 (take 16 d) ≡ take 16 d = take_all 16 (take 16 d) (omega (arith, length-take 16 d)) in
    let back : take 16 (drop 16 d) ≡ drop 16 d = take_all 16 (drop 16 d) (omega (arith, length-drop 16 d)) in
    rw (front, back) (take-append-drop 16 d)

pub firsts : (d : List ℕ) (j : ℕ) → length d ≡ 32 → j < 16 → slice_index (table (λ k. slice_index (chunk 0 16 (take 16 d) ++ take 16 (drop 16 d)) (2 * k)) 0 16) j ≡ slice_index d (2 * j)
firsts d j e low =
    let whole = chunk 0 16 (take 16 d) ++ take 16 (drop 16 d) in
    let start : 0 + j ≡ j = omega arith in
    table-at (λ k. slice_index whole (2 * k)) 0 16 j low ∙ ap (λ (k : ℕ). slice_index whole (2 * k)) start ∙ ap (λ (l : List ℕ). slice_index l (2 * j)) (halves d e)

pub seconds : (d : List ℕ) (j : ℕ) → length d ≡ 32 → j < 16 → slice_index (table (λ k. slice_index (chunk 0 16 (take 16 d) ++ take 16 (drop 16 d)) (2 * k + 1)) 0 16) j ≡ slice_index d (2 * j + 1)
seconds d j e low =
    let whole = chunk 0 16 (take 16 d) ++ take 16 (drop 16 d) in
    let start : 0 + j ≡ j = omega arith in
    table-at (λ k. slice_index whole (2 * k + 1)) 0 16 j low ∙ ap (λ (k : ℕ). slice_index whole (2 * k + 1)) start ∙ ap (λ (l : List ℕ). slice_index l (2 * j + 1)) (halves d e)

-- the pair of digits at a place is a byte
abbrev pub IsRead : List ℕ → List ℕ → ℕ → ℕ → Type 0
IsRead digits out k i = pair_value (slice_index digits (2 * k)) (slice_index digits (2 * k + 1)) i ≡ Ok (slice_index out k)

-- sixteen more bytes are written after `done`
pub block_added : (digits old new block : List ℕ) (done : ℕ) → done ≤ length old → take (done + 16) new ≡ take done old ++ block
    → ((k i : ℕ) → k < done → IsRead digits old k i)
    → ((k i : ℕ) → k < 16 → IsRead (take (2 * done + 32 - 2 * done) (drop (2 * done) digits)) block k i)
    → (k i : ℕ) → k < done + 16 → IsRead digits new k i
block_added digits old new block done room grown before here k i low =
    elim (cases_lt k done) [
      | inl below ↦
          let at : slice_index new k ≡ slice_index old k =
          sym (get_or-take (done + 16) new k 0 low) ∙ ap (λ (l : List ℕ). slice_index l k) grown
          ∙ get_or_append_left (take done old) block 0 k (omega (arith, below, room, length-take done old))
          ∙ get_or-take done old k 0 below in
          before k i below ∙ ap Ok (sym at)
      | inr past ↦
          let j : ℕ = k - done in
          let part = take (2 * done + 32 - 2 * done) (drop (2 * done) digits) in
          let front : length (take done old) ≡ done = length-take done old ∙ omega (arith, room) in
          let place : k ≡ length (take done old) + j = omega (arith, front, past) in
          let at : slice_index new k ≡ slice_index block j =
          sym (get_or-take (done + 16) new k 0 low) ∙ ap (λ (l : List ℕ). slice_index l k) grown
          ∙ ap (λ (n : ℕ). slice_index (take done old ++ block) n) place
          ∙ get_or-append-add (take done old) block j 0 in
          let first : slice_index part (2 * j) ≡ slice_index digits (2 * k) =
          get_or-take (2 * done + 32 - 2 * done) (drop (2 * done) digits) (2 * j) 0 (omega arith)
          ∙ get_or-drop (2 * done) digits (2 * j) 0
          ∙ ap (slice_index digits) (omega (arith, past)) in
          let second : slice_index part (2 * j + 1) ≡ slice_index digits (2 * k + 1) =
          get_or-take (2 * done + 32 - 2 * done) (drop (2 * done) digits) (2 * j + 1) 0 (omega arith)
          ∙ get_or-drop (2 * done) digits (2 * j + 1) 0
          ∙ ap (slice_index digits) (omega (arith, past)) in
          sym (ap (λ (x : ℕ). pair_value x (slice_index digits (2 * k + 1)) i) first)
          ∙ sym (ap (λ (x : ℕ). pair_value (slice_index part (2 * j)) x i) second)
          ∙ here j i (omega (arith, low, past)) ∙ ap Ok (sym at)
    ]

no_front : (r : Result (List ℕ) FromHexError) → r ≡ prepend [] r
no_front (Ok rest) = refl
no_front (Err e) = refl

-- what the pairs below n give
pub all_read : (digits out : List ℕ) (n : ℕ) → length digits ≡ 2 * length out → n ≤ length out → ((k i : ℕ) → k < n → IsRead digits out k i)
    → decode_pairs 0 digits ≡ prepend (take n out) (decode_pairs (2 * n) (drop (2 * n) digits))
all_read digits out zero len room each = no_front (decode_pairs 0 digits)
all_read digits out (suc n) len room each =
    let more : n + 1 ≡ suc n = omega arith in
    let inside : 2 * n + 1 < length digits = omega (arith, len, room) in
    let before = all_read digits out n len (omega arith) (λ k i low. each k i (omega arith)) in
    let step = decode_step digits out n (slice_index out n) inside (omega arith) (each n (2 * n) (omega arith)) before in
    step
    ∙ ap (λ (l : List ℕ). prepend (take (n + 1) l) (decode_pairs (2 * (n + 1)) (drop (2 * (n + 1)) digits))) (set-get_or out n 0)
    ∙ ap (λ (m : ℕ). prepend (take m out) (decode_pairs (2 * m) (drop (2 * m) digits))) more
