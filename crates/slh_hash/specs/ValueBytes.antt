-- What the functions of the SHA-2 parameter sets give is bytes. The impls of the suites cite these
-- lemmas, so they stand beside the definitions.
use Rattle.std.proofs.Common.{inl, inr, ℕ, zero, suc, ◌/◌, ◌^◌, ◌<◌, List, [], ◌∷◌, ◌++◌}
use Rattle.std.proofs.Common.{length, take, refl, subst, sym, lit<}
use Rattle.std.proofs.lemmas.Bool.{cases_lt}
use Rattle.std.proofs.lemmas.List.{get_or_append_left, get_or-append_right}
use Rattle.std.proofs.lemmas.Nat.{mod_below}
use Rattle.std.specs.Int.{byte_at, bytes_high_first, to_be_bytes, w32, w64}
use Rattle.std.specs.Prelude.{slice_index}
use Rattle.sha256_lanes.specs.Sha256.{fold_blocks, initial_words, pad, sha256, word_bytes}
use Rattle.sha2.specs.Sha512.{digest_bytes, final_hash, initial_hash_512, sha512}
use Rattle.slh_core.specs.Address.{compressed_address}
use Rattle.slh_core.specs.Suite.{HasBytes}
use Rattle.slh_hash.specs.Sha2.{seed_block, tweaked_hash_256, tweaked_hash_512}
use Rattle.slh_hash.specs.Sha2.{sha2_category_1, sha2_category_3_5}

-- each place has a byte; past the end a list has 0
abbrev AreBytes : List ℕ → Type 0
AreBytes xs = (i : ℕ) → slice_index xs i < 256

byte_at_small : (k n : ℕ) → byte_at k n < 256
byte_at_small zero n = mod_below n 256 (lit< tt)
byte_at_small (suc k) n = mod_below (n / 256 ^ suc k) 256 (lit< tt)

number_bytes : (k n : ℕ) → AreBytes (bytes_high_first k n)
number_bytes zero n i = lit< tt
number_bytes (suc k) n zero = byte_at_small k n
number_bytes (suc k) n (suc i) = number_bytes k n i

append_bytes : (xs ys : List ℕ) → AreBytes xs → AreBytes ys → AreBytes (xs ++ ys)
append_bytes xs ys first second i =
    elim (cases_lt i (length xs)) [
      | inl inside ↦
          subst (λ (b : ℕ). b < 256) (sym (get_or_append_left xs ys 0 i inside)) (first i)
      | inr past ↦
          subst (λ (b : ℕ). b < 256)
          (sym (get_or-append_right xs ys (length xs) i 0 refl past)) (second _)
    ]

take_bytes : (n : ℕ) (xs : List ℕ) → AreBytes xs → AreBytes (take n xs)
take_bytes zero xs all i = lit< tt
take_bytes (suc n) [] all i = lit< tt
take_bytes (suc n) (x ∷ xs) all zero = all zero
take_bytes (suc n) (x ∷ xs) all (suc i) = take_bytes n xs (λ k. all (suc k)) i

word_bytes_are : (words : List ℕ) → AreBytes (word_bytes words)
word_bytes_are [] = λ i. lit< tt
word_bytes_are (x ∷ words) =
    append_bytes (to_be_bytes w32 x) (word_bytes words) (number_bytes 4 x) (word_bytes_are words)

sha256_bytes : (m : List ℕ) → AreBytes (sha256 m)
unfolding sha256
sha256_bytes m = word_bytes_are (fold_blocks initial_words (pad m) (length (pad m) / 64))

digest_bytes_are : (words : List ℕ) (n : ℕ) → AreBytes (digest_bytes words n)
unfolding digest_bytes
digest_bytes_are words zero = λ i. lit< tt
digest_bytes_are words (suc n) =
    let last = slice_index words n in
    append_bytes (digest_bytes words n) (to_be_bytes w64 last) (digest_bytes_are words n)
    (number_bytes 8 last)

sha512_bytes : (m : List ℕ) → AreBytes (sha512 m)
unfolding sha512
sha512_bytes m = digest_bytes_are (final_hash initial_hash_512 m) 8

module _ (n : ℕ) (s a x : List ℕ) where
  tweaked_256_bytes : AreBytes (tweaked_hash_256 n s a x)
  unfolding tweaked_hash_256
  tweaked_256_bytes =
      let input : List ℕ = seed_block 64 n s ++ (compressed_address a ++ x) in
      take_bytes n (sha256 input) (sha256_bytes input)

  tweaked_512_bytes : AreBytes (tweaked_hash_512 n s a x)
  unfolding tweaked_hash_512
  tweaked_512_bytes =
      let input : List ℕ = seed_block 128 n s ++ (compressed_address a ++ x) in
      take_bytes n (sha512 input) (sha512_bytes input)

pub sha2_category_1_bytes : (n m : ℕ) → HasBytes (sha2_category_1 n m)
sha2_category_1_bytes n m = record {
  h = λ s a l r. tweaked_256_bytes n s a (l ++ r);
  t = tweaked_256_bytes n;
}

pub sha2_category_3_5_bytes : (n m : ℕ) → HasBytes (sha2_category_3_5 n m)
sha2_category_3_5_bytes n m = record {
  h = λ s a l r. tweaked_512_bytes n s a (l ++ r);
  t = tweaked_512_bytes n;
}
