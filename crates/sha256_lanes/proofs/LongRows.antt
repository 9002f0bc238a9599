-- The blocks of a row and its padding, and the digest of a first block and a row.
use Rattle.std.proofs.Common.{◌≡◌, ℕ, suc, ◌+◌, ◌-◌, ◌*◌, ◌/◌, ◌%◌, ◌^◌, ◌<◌, ◌≤◌, List, ◌∷◌, ◌++◌, length, take, drop, replicate, refl, sym, ap, ◌∙◌, arith, length-append, append_assoc, length-drop}
use Rattle.std.proofs.lemmas.List.{drop-append-le, drop-replicate, length-replicate, replicate-append-replicate, take_all, take-append-le, take-replicate}
use Rattle.std.proofs.Math.Seq.{drop-append-add, take-append-add}
use Rattle.std.specs.Int.{to_be_bytes, w64}
use Rattle.sha256_lanes.specs.Sha256.{compress, fold_blocks, initial_words, padding, sha256, word_bytes, zero_count}
use Rattle.sha256_lanes.proofs.Ending.{sha256_after_block}

-- the length that ends the padding
abbrev ending : ℕ → List ℕ
ending total = to_be_bytes w64 (8 * total % 2 ^ 64)

-- a block that lies within the row
pub whole_block : (row rest : List ℕ) (start : ℕ) → start + 64 ≤ length row
    → take 64 (drop start row) ≡ take 64 (drop start (row ++ rest))
whole_block row rest start inside =
    sym (ap (take 64) (drop-append-le start row rest (omega arith))
    ∙ take-append-le 64 (drop start row) rest (omega (arith, length-drop start row)))

-- the bytes from a place on
pub rest_of : (row : List ℕ) (start : ℕ) → take (length row - start) (drop start row) ≡ drop start row
rest_of row start = take_all (length row - start) (drop start row) (omega (arith, length-drop start row))

-- what is left of the padded row where the last bytes of the row begin a block
last_bytes : (row : List ℕ) (total start : ℕ) → start ≤ length row
    → drop start (row ++ padding total) ≡ drop start row ++ padding total
last_bytes row total start inside = drop-append-le start row (padding total) inside

-- the last bytes, the byte after them, and the length, in one block
pub last_block : (row block : List ℕ) (total b : ℕ) → total % 64 ≡ length row % 64 → 64 * b ≤ length row → length row + 9 ≤ 64 * b + 64
    → block ≡ take 56 (drop (64 * b) row ++ 0x80 ∷ replicate (63 - length (drop (64 * b) row)) 0) ++ ending total
    → block ≡ take 64 (drop (64 * b) (row ++ padding total))
last_block row block total b aligned begun ended is =
    let rest : List ℕ = drop (64 * b) row in
    let r : ℕ = length rest in
    let size : r ≡ length row - 64 * b = length-drop (64 * b) row in
    let zeros : zero_count total ≡ 55 - r = omega arith in
    let place : 56 ≡ r + suc (55 - r) = omega arith in
    let front : take 56 (rest ++ 0x80 ∷ replicate (63 - r) 0) ≡ rest ++ 0x80 ∷ replicate (55 - r) 0 =
    ap (λ (k : ℕ). take k (rest ++ 0x80 ∷ replicate (63 - r) 0)) place ∙ take-append-add rest (0x80 ∷ replicate (63 - r) 0) (suc (55 - r))
    ∙ ap (λ (z : List ℕ). rest ++ 0x80 ∷ z) (take-replicate (55 - r) (63 - r) 0 (omega arith)) in
    let back : (rest ++ 0x80 ∷ replicate (55 - r) 0) ++ ending total ≡ rest ++ padding total =
    rw zeros (append_assoc rest (0x80 ∷ replicate (55 - r) 0) (ending total)) in
    let joined : block ≡ rest ++ padding total = is ∙ ap (λ (z : List ℕ). z ++ ending total) front ∙ back in
    let eight : length (ending total) ≡ 8 = refl in
    let all : length (rest ++ padding total) ≡ 64 =
    rw zeros (omega (
      arith,
      length-append rest (0x80 ∷ replicate (55 - r) 0 ++ ending total),
      length-append (0x80 ∷ replicate (55 - r) 0) (ending total),
      length-replicate {A = ℕ} (55 - r) 0,
    )) in
    joined ∙ sym (ap (take 64) (last_bytes row total (64 * b) begun) ∙ take_all 64 (rest ++ padding total) (omega arith))

-- the last bytes and the byte after them, where the length stands in the next block
pub block_before_last : (row block : List ℕ) (total b : ℕ) → total % 64 ≡ length row % 64
    → 64 * b ≤ length row → length row < 64 * b + 64 → 64 * b + 64 < length row + 9
    → block ≡ drop (64 * b) row ++ 0x80 ∷ replicate (63 - length (drop (64 * b) row)) 0
    → block ≡ take 64 (drop (64 * b) (row ++ padding total))
block_before_last row block total b aligned begun short long is =
    let rest : List ℕ = drop (64 * b) row in
    let r : ℕ = length rest in
    let size : r ≡ length row - 64 * b = length-drop (64 * b) row in
    let zeros : zero_count total ≡ 63 - r + 56 = omega arith in
    let zeros56 : List ℕ = replicate 56 0 in
    let split : replicate (63 - r + 56) 0 ≡ replicate (63 - r) 0 ++ zeros56 = sym (replicate-append-replicate (63 - r) 56 0) in
    let others : List ℕ = zeros56 ++ ending total in
    let joined : rest ++ padding total ≡ (rest ++ 0x80 ∷ replicate (63 - r) 0) ++ others =
    rw (zeros, split, append_assoc rest (0x80 ∷ replicate (63 - r) 0) others, append_assoc (replicate (63 - r) 0) zeros56 (ending total)) refl in
    let front : length (rest ++ 0x80 ∷ replicate (63 - r) 0) ≡ 64 =
    omega (arith, length-append rest (0x80 ∷ replicate (63 - r) 0), length-replicate {A = ℕ} (63 - r) 0) in
    is ∙ sym (ap (take 64) (last_bytes row total (64 * b) begun ∙ joined)
    ∙ take-append-le 64 (rest ++ 0x80 ∷ replicate (63 - r) 0) others (omega arith) ∙ take_all 64 (rest ++ 0x80 ∷ replicate (63 - r) 0) (omega arith))

zeros_left : (d n : ℕ) (rest : List ℕ) → drop d (replicate (d + n) 0 ++ rest) ≡ replicate n 0 ++ rest
zeros_left d n rest =
    let fewer : d + n - d ≡ n = omega arith in
    drop-append-le d (replicate (d + n) 0) rest (omega (arith, length-replicate {A = ℕ} (d + n) 0))
    ∙ rw (drop-replicate {X = ℕ} d (d + n) 0, fewer) refl

-- zeros and the length, in a block of their own
pub block_of_length : (row block : List ℕ) (total b : ℕ) → total % 64 ≡ length row % 64
    → length row < 64 * b → 64 * b ≤ length row + 8
    → block ≡ take 56 (replicate 64 0) ++ ending total
    → block ≡ take 64 (drop (64 * b) (row ++ padding total))
block_of_length row block total b aligned past near is =
    let d : ℕ = 64 * b - length row - 1 in
    let zeros : zero_count total ≡ d + 56 = omega arith in
    let place : 64 * b ≡ length row + suc d = omega arith in
    let zeros56 : List ℕ = replicate 56 0 in
    let eight : length (ending total) ≡ 8 = refl in
    let rest : drop (64 * b) (row ++ padding total) ≡ zeros56 ++ ending total =
    rw place (drop-append-add row (padding total) (suc d) ∙ rw zeros (zeros_left d 56 (ending total))) in
    is ∙ sym (rw rest (take_all 64 (zeros56 ++ ending total) (omega (arith, length-append zeros56 (ending total)))))

-- the digest, from the words after all blocks of a row and its padding
pub sha256_of_row : (words m row end : List ℕ) (total count : ℕ) → length m ≡ 64 → words ≡ compress initial_words m
    → total ≡ 64 + length row → count ≡ (length row + 72) / 64
    → end ≡ fold_blocks words (row ++ padding total) count
    → word_bytes end ≡ sha256 (m ++ row)
sha256_of_row words m row end total count block first sum blocks is =
    let eight : length (ending total) ≡ 8 = refl in
    let size : length (row ++ padding total) ≡ length row + (1 + (zero_count total + 8)) =
    omega (
      arith,
      length-append row (padding total),
      length-append (0x80 ∷ replicate (zero_count total) 0) (ending total),
      length-replicate {A = ℕ} (zero_count total) 0,
    ) in
    ap word_bytes is ∙ sha256_after_block words m row total count block first sum (omega arith)
