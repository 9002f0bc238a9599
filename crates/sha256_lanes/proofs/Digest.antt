-- How long a digest is.
use Rattle.std.proofs.Common.{◌≡◌, ℕ, zero, suc, ◌*◌, ◌/◌, List, [], ◌∷◌, length, take, drop, refl, arith, length-append}
use Rattle.std.specs.Int.{to_be_bytes, w32}
use Rattle.sha256_lanes.specs.Sha256.{compress, fold_blocks, initial_words, pad, sha256, word_bytes}

length-compress : (h b : List ℕ) → length (compress h b) ≡ 8
unfolding compress
length-compress h b = refl

-- a hash value has eight words
pub length-fold_blocks : (h p : List ℕ) (n : ℕ) → length h ≡ 8 → length (fold_blocks h p n) ≡ 8
unfolding fold_blocks
length-fold_blocks h p zero eight = eight
length-fold_blocks h p (suc n) eight = length-fold_blocks (compress h (take 64 p)) (drop 64 p) n (length-compress h (take 64 p))

length-word_bytes : (h : List ℕ) → length (word_bytes h) ≡ 4 * length h
length-word_bytes [] = refl
length-word_bytes (x ∷ h) =
    let four : length (to_be_bytes w32 x) ≡ 4 = refl in
    omega (arith, length-append (to_be_bytes w32 x) (word_bytes h), length-word_bytes h, four)

-- a digest has 32 bytes
pub length-sha256 : (m : List ℕ) → length (sha256 m) ≡ 32
unfolding sha256
length-sha256 m =
    let words = length-fold_blocks initial_words (pad m) (length (pad m) / 64) refl in
    omega (arith, length-word_bytes (fold_blocks initial_words (pad m) (length (pad m) / 64)), words)
