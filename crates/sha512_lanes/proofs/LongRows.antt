-- Rows with their padding, and the digest of a first block and a row.
use Rattle.std.proofs.Common.{◌≡◌, ℕ, zero, suc, ◌+◌, ◌*◌, ◌/◌, ◌<◌, ◌≤◌, List, ◌++◌, length, take, drop, refl, sym, ap, ◌∙◌, arith, length-append, append_assoc, length-drop, length-take-le}
use Rattle.std.proofs.lemmas.List.{take-append-drop}
use Rattle.std.proofs.lemmas.Nat.{row_fits}
use Rattle.std.proofs.Math.Seq.{drop-append-add}
use Rattle.sha2.specs.Sha512.{compress, digest_bytes, hash_after, initial_hash_512, padded_message, padding, sha512}
use Rattle.sha2.proofs.Absorbing512.{hash_after-append, hash_after_next}
use Rattle.sha512_lanes.proofs.Ending.{digest_is, take_front}

-- where a row and its padding end
abbrev pub row_end : ℕ → ℕ
row_end len = 128 * ((len + 144) / 128)

pub none_yet : (h x : List ℕ) → hash_after h x 0 ≡ h
unfolding hash_after
none_yet h x = refl

-- the words after the first block are where the others go on
after_first : (ini m p : List ℕ) (n : ℕ) → length m ≡ 128 → hash_after ini (m ++ p) (n + 1) ≡ hash_after (compress ini m) p n
after_first ini m p zero block =
    hash_after_next ini (m ++ p) 0 ∙ ap (λ (h : List ℕ). compress h (take 128 (m ++ p))) (none_yet ini (m ++ p))
    ∙ ap (compress ini) (take_front 128 m p block) ∙ sym (none_yet (compress ini m) p)
after_first ini m p (suc n) block =
    let more : suc n + 1 ≡ (n + 1) + 1 = omega arith in
    let up : n + 1 ≡ suc n = omega arith in
    let place : (n + 1) * 128 ≡ length m + n * 128 = omega arith in
    ap (hash_after ini (m ++ p)) more ∙ hash_after_next ini (m ++ p) (n + 1)
    ∙ ap (λ (h : List ℕ). compress h (take 128 (drop ((n + 1) * 128) (m ++ p)))) (after_first ini m p n block)
    ∙ ap (λ (x : List ℕ). compress (hash_after (compress ini m) p n) (take 128 x)) (ap (λ (k : ℕ). drop k (m ++ p)) place ∙ drop-append-add m p (n * 128))
    ∙ sym (hash_after_next (compress ini m) p n)
    ∙ ap (hash_after (compress ini m) p) up

-- the digest of a first block and a row, from the row with its padding at the front of an array
pub sha512_of_row : (words m row padded : List ℕ) (count : ℕ) → length m ≡ 128 → words ≡ compress initial_hash_512 m → length row ≤ 2287
    → length padded ≡ 2304 → count ≡ (length row + 144) / 128 → take (row_end (length row)) padded ≡ row ++ padding (128 + length row)
    → digest_bytes (hash_after words padded count) 8 ≡ sha512 (m ++ row)
sha512_of_row words m row padded count block first short size blocks front =
    let r : ℕ = length row in
    let p : List ℕ = row ++ padding (128 + r) in
    let length_of : length (m ++ row) ≡ 128 + r = omega (arith, length-append m row) in
    let whole : padded_message (m ++ row) ≡ m ++ p = rw length_of (append_assoc m row (padding (128 + r))) in
    let end : length p ≡ row_end r = ap length (sym front) ∙ length-take-le (row_end r) padded (omega arith) in
    let all : length (m ++ p) / 128 ≡ count + 1 = omega (arith, length-append m p, end) in
    let same : hash_after words padded count ≡ hash_after words p count =
    ap (λ (x : List ℕ). hash_after words x count) (sym (take-append-drop (row_end r) padded) ∙ ap (λ (x : List ℕ). x ++ drop (row_end r) padded) front)
    ∙ hash_after-append words p (drop (row_end r) padded) count (omega (arith, end)) in
    ap (λ (h : List ℕ). digest_bytes h 8)
    (same ∙ ap (λ (h : List ℕ). hash_after h p count) first ∙ sym (after_first initial_hash_512 m p count block))
    ∙ sym (digest_is (m ++ row) ∙ rw (whole, all) refl)

-- a row stands within all of them
pub row_inside : (k len : ℕ) → k < 4 → (all : ℕ) → all ≡ 4 * len → k * len + len ≤ all
row_inside k len low all e = rw e (row_fits k len 4 len low (omega arith))

-- the row that stands at a place, with its padding
pub row_of : (rows result : List ℕ) (len k start n : ℕ) → length rows ≡ 4 * len → k < 4 → start ≡ k * len → n ≡ len
    → (let row : List ℕ = take n (drop start rows) in take (row_end (length row)) result ≡ row ++ padding (128 + length row))
    → take (row_end len) result ≡ take len (drop (k * len) rows) ++ padding (128 + len)
row_of rows result len k start n whole low at count is =
    let room : k * len + len ≤ length rows = row_inside k len low (length rows) whole in
    let size : length (take len (drop (k * len) rows)) ≡ len = length-take-le len (drop (k * len) rows) (omega (arith, length-drop (k * len) rows, room)) in
    rw size at (rw (count, at) at is)
