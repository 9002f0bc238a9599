-- The functions over SHA-2.
use Rattle.std.proofs.Common.{◌≡◌, ℕ, zero, suc, ◌-◌, ◌/◌, ◌^◌, ◌<◌, List, [], ◌∷◌, ◌++◌, inl, inr, length, take, lit<, refl, sym, ap, subst, ◌∙◌, arith, append_assoc}
use Rattle.std.specs.Prelude.{replicate, slice_index}
use Rattle.std.proofs.lemmas.Bool.{cases_lt}
use Rattle.std.proofs.lemmas.List.{get_or_append_left, get_or-append_right, take-append-drop}
use Rattle.std.proofs.lemmas.Nat.{mod_below}
use Rattle.std.proofs.Math.Nat.{div-eq_of_lt, pow-suc}
use Rattle.std.specs.Int.{byte_at, bytes_high_first, div_ceil, to_be_bytes, w32, w64}
use Rattle.sha256_lanes.specs.Sha256.{fold_blocks, initial_words, pad, sha256, word_bytes}
use Rattle.sha2.specs.Sha512.{digest_bytes, final_hash, initial_hash_512, sha512}
use Rattle.slh_core.specs.Bytes.{big_endian, joined}
use Rattle.slh_core.specs.Parameters.{scheme_of}
use Rattle.slh_hash.specs.Sha2.{tweaked_hash_256, tweaked_hash_512, mgf1_sha256, mgf1_sha512, message_digest_256, message_digest_512, sha2_category_1, sha2_category_3_5}
use Rattle.fips205_law.specs.Bytes.{toByte}
use Rattle.fips205_law.specs.Law.{AreBytes}
use Rattle.fips205_law.specs.Loops.{for_below}
use Rattle.fips205_law.specs.Parameters.{instance_of, ceil_div}
use Rattle.fips205_law.proofs.Bytes.{toByte-big_endian}
use Rattle.fips205_sets_law.specs.Functions.{compressed, mgf1, with_sha256, with_sha512}
use Rattle.fips205_sets_law.specs.Law.{AreCategory1, AreCategory35}

pos_power : (k : ℕ) → 0 < 256 ^ k
pos_power zero = lit< tt
pos_power (suc k) = let before : 0 < 256 ^ k = pos_power k in rw (pow-suc 256 k) (omega arith)

byte_at_zero : (k : ℕ) → byte_at k 0 ≡ 0
byte_at_zero zero = refl
byte_at_zero (suc k) =
    let none : 0 / 256 ^ suc k ≡ 0 = div-eq_of_lt (pos_power (suc k)) in rw none refl

zeros : (n : ℕ) → big_endian 0 n ≡ replicate n 0
zeros zero = refl
zeros (suc n) = rw (byte_at_zero n, zeros n) refl

no_bytes : (n : ℕ) → toByte 0 n ≡ replicate n 0
no_bytes n = toByte-big_endian 0 n ∙ zeros n

tweaked_256 : (n : ℕ) (s A M : List ℕ) → tweaked_hash_256 n s A M ≡ with_sha256 n s A M
unfolding tweaked_hash_256
tweaked_256 n s A M = rw (no_bytes (64 - n)) (ap (λ (x : List ℕ). take n (sha256 x)) (sym (append_assoc (s ++ replicate (64 - n) 0) (compressed A) M)))

tweaked_512 : (n : ℕ) (s A M : List ℕ) → tweaked_hash_512 n s A M ≡ with_sha512 n s A M
unfolding tweaked_hash_512
tweaked_512 n s A M = rw (no_bytes (128 - n)) (ap (λ (x : List ℕ). take n (sha512 x)) (sym (append_assoc (s ++ replicate (128 - n) 0) (compressed A) M)))

mask_so_far : (hash : List ℕ → List ℕ) (seed : List ℕ) (k : ℕ) → joined (λ i. hash (seed ++ big_endian i 4)) k ≡ for_below k (λ counter T. T ++ hash (seed ++ toByte counter 4)) []
unfolding joined for_below
mask_so_far hash seed zero = refl
mask_so_far hash seed (suc k) = rw (mask_so_far hash seed k, toByte-big_endian k 4) refl

mgf1_256 : (seed : List ℕ) (m : ℕ) → mgf1_sha256 seed m ≡ mgf1 sha256 32 seed m
unfolding mgf1_sha256 mgf1
mgf1_256 seed m =
    let count : div_ceil m 32 ≡ ceil_div m 32 = omega arith in
    rw (mask_so_far sha256 seed (div_ceil m 32), count) refl

mgf1_512 : (seed : List ℕ) (m : ℕ) → mgf1_sha512 seed m ≡ mgf1 sha512 64 seed m
unfolding mgf1_sha512 mgf1
mgf1_512 seed m =
    let count : div_ceil m 64 ≡ ceil_div m 64 = omega arith in
    rw (mask_so_far sha512 seed (div_ceil m 64), count) refl

pub category_1 : (n m hp d a k : ℕ) → (let Z = scheme_of (sha2_category_1 n m) n hp d a k in AreCategory1 (instance_of Z) m)
unfolding message_digest_256
category_1 n m hp d a k = record {
  F = tweaked_256 n;
  H = λ s A M. ap (tweaked_hash_256 n s A) (take-append-drop n M) ∙ tweaked_256 n s A M;
  T = tweaked_256 n;
  PRF = λ s sk A. tweaked_256 n s A sk;
  PRF_msg = λ prf rand M. refl;
  H_msg = λ R s root M. mgf1_256 (R ++ s ++ sha256 (R ++ s ++ root ++ M)) m;
}

pub category_3_5 : (n m hp d a k : ℕ) → (let Z = scheme_of (sha2_category_3_5 n m) n hp d a k in AreCategory35 (instance_of Z) m)
unfolding message_digest_512
category_3_5 n m hp d a k = record {
  F = tweaked_256 n;
  H = λ s A M. ap (tweaked_hash_512 n s A) (take-append-drop n M) ∙ tweaked_512 n s A M;
  T = tweaked_512 n;
  PRF = λ s sk A. tweaked_256 n s A sk;
  PRF_msg = λ prf rand M. refl;
  H_msg = λ R s root M. mgf1_512 (R ++ s ++ sha512 (R ++ s ++ root ++ M)) m;
}

-- the digests are bytes
byte_at_small : (k n : ℕ) → byte_at k n < 256
byte_at_small zero n = mod_below n 256 (lit< tt)
byte_at_small (suc k) n = mod_below (n / 256 ^ suc k) 256 (lit< tt)

number_bytes : (k n : ℕ) → AreBytes (bytes_high_first k n)
number_bytes zero n i = lit< tt
number_bytes (suc k) n zero = byte_at_small k n
number_bytes (suc k) n (suc i) = number_bytes k n i

append_bytes : (xs ys : List ℕ) → AreBytes xs → AreBytes ys → AreBytes (xs ++ ys)
append_bytes xs ys first second i =
    elim (cases_lt i (length xs)) [
      | inl inside ↦ subst (λ (b : ℕ). b < 256) (sym (get_or_append_left xs ys 0 i inside)) (first i)
      | inr past ↦ subst (λ (b : ℕ). b < 256) (sym (get_or-append_right xs ys (length xs) i 0 refl past)) (second _)
    ]

take_bytes : (n : ℕ) (xs : List ℕ) → AreBytes xs → AreBytes (take n xs)
take_bytes zero xs all i = lit< tt
take_bytes (suc n) [] all i = lit< tt
take_bytes (suc n) (x ∷ xs) all zero = all zero
take_bytes (suc n) (x ∷ xs) all (suc i) = take_bytes n xs (λ k. all (suc k)) i

word_bytes_are : (words : List ℕ) → AreBytes (word_bytes words)
word_bytes_are [] = λ i. lit< tt
word_bytes_are (x ∷ words) = append_bytes (to_be_bytes w32 x) (word_bytes words) (number_bytes 4 x) (word_bytes_are words)

sha256_bytes : (m : List ℕ) → AreBytes (sha256 m)
unfolding sha256
sha256_bytes m = word_bytes_are (fold_blocks initial_words (pad m) (length (pad m) / 64))

digest_bytes_are : (words : List ℕ) (n : ℕ) → AreBytes (digest_bytes words n)
unfolding digest_bytes
digest_bytes_are words zero = λ i. lit< tt
digest_bytes_are words (suc n) =
    let last = slice_index words n in
    append_bytes (digest_bytes words n) (to_be_bytes w64 last) (digest_bytes_are words n) (number_bytes 8 last)

sha512_bytes : (m : List ℕ) → AreBytes (sha512 m)
unfolding sha512
sha512_bytes m = digest_bytes_are (final_hash initial_hash_512 m) 8

joined_bytes : (f : ℕ → List ℕ) (k : ℕ) → ((i : ℕ) → AreBytes (f i)) → AreBytes (joined f k)
unfolding joined
joined_bytes f zero all = λ i. lit< tt
joined_bytes f (suc k) all = append_bytes (joined f k) (f k) (joined_bytes f k all) (all k)

pub digest_256_bytes : (m : ℕ) (r s root message : List ℕ) → AreBytes (message_digest_256 m r s root message)
unfolding message_digest_256 mgf1_sha256
digest_256_bytes m r s root message =
    take_bytes m _ (joined_bytes _ (div_ceil m 32) (λ i. sha256_bytes _))

pub digest_512_bytes : (m : ℕ) (r s root message : List ℕ) → AreBytes (message_digest_512 m r s root message)
unfolding message_digest_512 mgf1_sha512
digest_512_bytes m r s root message =
    take_bytes m _ (joined_bytes _ (div_ceil m 64) (λ i. sha512_bytes _))
