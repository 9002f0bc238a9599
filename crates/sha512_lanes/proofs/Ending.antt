-- The last block of a message, and the digest of a message of two blocks.
use Rattle.std.proofs.Common.{◌≡◌, ℕ, suc, ◌+◌, ◌-◌, ◌*◌, ◌/◌, ◌%◌, ◌^◌, ◌<◌, ◌≤◌, List, ◌∷◌, ◌++◌, length, take, drop, replicate, refl, sym, ap, ◌∙◌, arith, length-append, append_assoc}
use Rattle.std.proofs.lemmas.List.{take_all, length-replicate}
use Rattle.std.proofs.Math.Seq.{drop-append_seam, take-append_seam}
use Rattle.std.specs.Int.{to_be_bytes, w128}
use Rattle.word_lanes.proofs.Blocks.{take_ended}
use Rattle.sha2.specs.Sha512.{compress, digest_bytes, hash_after, initial_hash_512, padded_message, padding, sha512}

-- k bytes of a tail or a row with what begins its padding, and the length of the message
pub padded_is : (k zeros : ℕ) (bytes whole : List ℕ) (total : ℕ) → length bytes ≤ 2287
    → length bytes < k → k ≤ length bytes + suc zeros → total ≡ 128 + length bytes
    → k - 1 - length bytes ≡ (239 - (128 + length bytes) % 128) % 128
    → whole ≡ take k (bytes ++ 0x80 ∷ replicate zeros 0) ++ to_be_bytes w128 (total * 8)
    → whole ≡ bytes ++ padding (128 + length bytes)
padded_is k zeros bytes whole total short low high count left is =
    let bits : total * 8 ≡ (128 + length bytes) * 8 % 2 ^ 128 = omega arith in
    is ∙ ap (λ (xs : List ℕ). xs ++ to_be_bytes w128 (total * 8)) (take_ended k zeros bytes 0x80 low high)
    ∙ append_assoc bytes (0x80 ∷ replicate (k - 1 - length bytes) 0) (to_be_bytes w128 (total * 8))
    ∙ rw (left, bits) refl

-- how long the padding is after a first block and a tail
length-padding : (len : ℕ) → len ≤ 111 → len + length (padding (128 + len)) ≡ 128
length-padding len short =
    let zeros : (239 - (128 + len) % 128) % 128 ≡ 111 - len = omega arith in
    let sixteen : length (to_be_bytes w128 ((128 + len) * 8 % 2 ^ 128)) ≡ 16 = refl in
    omega (arith, zeros, sixteen, length-append (0x80 ∷ replicate ((239 - (128 + len) % 128) % 128) 0) (to_be_bytes w128 ((128 + len) * 8 % 2 ^ 128)), length-replicate {A = ℕ} ((239 - (128 + len) % 128) % 128) 0)

two_blocks : (ini p : List ℕ) → hash_after ini p 2 ≡ compress (compress ini (take 128 (drop 0 p))) (take 128 (drop 128 p))
unfolding hash_after
two_blocks ini p = refl

pub digest_is : (message : List ℕ) → sha512 message ≡ digest_bytes (hash_after initial_hash_512 (padded_message message) (length (padded_message message) / 128)) 8
unfolding sha512
digest_is message = refl

-- the front of a known length, and what follows it
pub take_front : (n : ℕ) (xs ys : List ℕ) → length xs ≡ n → take n (xs ++ ys) ≡ xs
take_front n xs ys size = rw (← size) (take-append_seam xs ys)

pub drop_front : (n : ℕ) (xs ys : List ℕ) → length xs ≡ n → drop n (xs ++ ys) ≡ ys
drop_front n xs ys size = rw (← size) (drop-append_seam xs ys)

-- the digest of a first block and a tail
pub sha512_of_two : (words m tail : List ℕ) (len : ℕ) → length m ≡ 128 → words ≡ compress initial_hash_512 m → length tail ≡ len → len ≤ 111
    → digest_bytes (compress words (tail ++ padding (128 + len))) 8 ≡ sha512 (m ++ tail)
sha512_of_two words m tail len block first size short =
    let last : List ℕ = tail ++ padding (128 + len) in
    let count : length (m ++ tail) ≡ 128 + len = omega (arith, length-append m tail) in
    let whole : padded_message (m ++ tail) ≡ m ++ last = rw count (append_assoc m tail (padding (128 + len))) in
    let end : length last ≡ 128 = omega (arith, length-append tail (padding (128 + len)), length-padding len short) in
    let blocks : length (m ++ last) / 128 ≡ 2 = omega (arith, length-append m last) in
    let left : take 128 (m ++ last) ≡ m = take_front 128 m last block in
    let right : take 128 (drop 128 (m ++ last)) ≡ last = ap (take 128) (drop_front 128 m last block) ∙ take_all 128 last (omega arith) in
    sym (digest_is (m ++ tail) ∙ rw (whole, blocks, two_blocks initial_hash_512 (m ++ last), left, right, first) refl)
