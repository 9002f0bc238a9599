-- The last block of a message, and the digest of a message from the words after its first block.
use Rattle.std.proofs.Common.{◌≡◌, ℕ, suc, ◌+◌, ◌-◌, ◌*◌, ◌/◌, ◌%◌, ◌^◌, ◌<◌, List, ◌∷◌, ◌++◌, length, take, drop, replicate, refl, sym, ap, ◌∙◌, arith, length-append, append_assoc}
use Rattle.std.proofs.lemmas.List.{take_all, length-replicate}
use Rattle.std.proofs.Math.Seq.{drop-append_seam, take-append_seam}
use Rattle.std.specs.Int.{to_be_bytes, w64}
use Rattle.word_lanes.proofs.Blocks.{take_ended}
use Rattle.sha256_lanes.specs.Eight.{ended_block}
use Rattle.sha256_lanes.specs.Sha256.{compress, fold_blocks, initial_words, padding, sha256, word_bytes, zero_count}
use Rattle.sha256_lanes.proofs.Folding.{fold_blocks_first}

-- bytes that leave room for the padding, and it
pub ended_block_is : (bytes : List ℕ) (total : ℕ) → length bytes < 56 → total % 64 ≡ length bytes
    → ended_block bytes total ≡ bytes ++ padding total
ended_block_is bytes total short left =
    let r : ℕ = length bytes in
    let zeros : zero_count total ≡ 55 - r = omega arith in
    let ending : List ℕ = to_be_bytes w64 (8 * total % 2 ^ 64) in
    ap (λ (l : List ℕ). l ++ ending) (take_ended 56 (63 - r) bytes 0x80 (omega arith) (omega arith))
    ∙ append_assoc bytes (0x80 ∷ replicate (55 - r) 0) ending ∙ rw zeros refl

-- such a block
pub length-ended : (bytes : List ℕ) (total : ℕ) → length bytes < 56 → total % 64 ≡ length bytes
    → length (bytes ++ padding total) ≡ 64
length-ended bytes total short left =
    let zeros : zero_count total ≡ 55 - length bytes = omega arith in
    let eight : length (to_be_bytes w64 (8 * total % 2 ^ 64)) ≡ 8 = refl in
    omega (
      arith,
      zeros,
      eight,
      length-append bytes (padding total),
      length-append (0x80 ∷ replicate (zero_count total) 0) (to_be_bytes w64 (8 * total % 2 ^ 64)),
      length-replicate {A = ℕ} (zero_count total) 0,
    )

-- the front of a known length, and what follows it
take_front : (n : ℕ) (xs ys : List ℕ) → length xs ≡ n → take n (xs ++ ys) ≡ xs
take_front n xs ys size = rw (← size) (take-append_seam xs ys)

drop_front : (n : ℕ) (xs ys : List ℕ) → length xs ≡ n → drop n (xs ++ ys) ≡ ys
drop_front n xs ys size = rw (← size) (drop-append_seam xs ys)

-- the digest of a first block m and more bytes d, from what follows the block
pub sha256_after_block : (words m d : List ℕ) (total count : ℕ) → length m ≡ 64 → words ≡ compress initial_words m
    → total ≡ 64 + length d → count ≡ length (d ++ padding total) / 64
    → word_bytes (fold_blocks words (d ++ padding total) count) ≡ sha256 (m ++ d)
unfolding sha256
sha256_after_block words m d total count block first all many =
    let p : List ℕ = d ++ padding total in
    let size : length (m ++ d) ≡ total = omega (arith, length-append m d) in
    let whole : (m ++ d) ++ padding (length (m ++ d)) ≡ m ++ p = rw size (append_assoc m d (padding total)) in
    let blocks : length (m ++ p) / 64 ≡ suc count = omega (arith, length-append m p) in
    let front : take 64 (m ++ p) ≡ m = take_front 64 m p block in
    let back : drop 64 (m ++ p) ≡ p = drop_front 64 m p block in
    sym (rw (whole, blocks, fold_blocks_first initial_words (m ++ p) count, front, back, first) refl)

-- the digest of a first block and a tail, which end in a second block
pub sha256_of_two : (words m d : List ℕ) (total : ℕ) → length m ≡ 64 → words ≡ compress initial_words m → length d < 56
    → total ≡ 64 + length d → word_bytes (compress words (d ++ padding total)) ≡ sha256 (m ++ d)
unfolding fold_blocks
sha256_of_two words m d total block first short all =
    let last : List ℕ = d ++ padding total in
    let size : length last ≡ 64 = length-ended d total short (omega arith) in
    ap (λ (b : List ℕ). word_bytes (compress words b)) (sym (take_all 64 last (omega arith)))
    ∙ sha256_after_block words m d total 1 block first all (omega arith)
