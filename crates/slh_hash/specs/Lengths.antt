-- How many bytes the functions of the SHA-2 parameter sets give. The impls of the suites cite these
-- lemmas, so they stand beside the definitions.
use Rattle.std.proofs.Common.{◌≡◌, ℕ, ◌*◌, ◌<◌, ◌≤◌, List, ◌++◌, length, take, subst, sym, lit<}
use Rattle.std.proofs.Common.{lit≤}
use Rattle.std.proofs.lemmas.Grind.{div_ceil_times}
use Rattle.std.proofs.lemmas.List.{length-take-le}
use Rattle.std.proofs.Math.Nat.{le_trans}
use Rattle.std.specs.Int.{div_ceil}
use Rattle.sha256_lanes.specs.Sha256.{sha256}
use Rattle.hmac_sha256.specs.Hmac.{hmac_sha256, masked}
use Rattle.hmac_sha256.proofs.Codes.{length-hmac_sha256}
use Rattle.sha256_lanes.proofs.Digest.{length-sha256}
use Rattle.sha2.specs.Sha512.{sha512}
use Rattle.sha2.proofs.Facts512.{length-sha512}
use Rattle.slh_core.proofs.Joins.{length-joined}
use Rattle.slh_core.specs.Address.{compressed_address}
use Rattle.slh_core.specs.Bytes.{big_endian, joined}
use Rattle.slh_core.specs.Suite.{HasLength, HasDigestLength}
use Rattle.slh_hash.specs.HmacSha512.{hmac_sha512, key_block}
use Rattle.slh_hash.specs.Sha2.{seed_block, tweaked_hash_256, tweaked_hash_512}
use Rattle.slh_hash.specs.Sha2.{mgf1_sha256, mgf1_sha512, message_digest_256, message_digest_512}
use Rattle.slh_hash.specs.Sha2.{sha2_category_1, sha2_category_3_5}

-- the first bytes of a list that is known to have as many
length-first : (n k : ℕ) (xs : List ℕ) → n ≤ k → length xs ≡ k → length (take n xs) ≡ n
length-first n k xs small len =
    length-take-le n xs (subst (λ (j : ℕ). n ≤ j) (sym len) small)

-- the first bytes of as many blocks as hold them
length-mask : (block : ℕ → List ℕ) (size len : ℕ) → 0 < size → ((i : ℕ) → length (block i) ≡ size)
    → length (take len (joined block (div_ceil len size))) ≡ len
length-mask block size len some sized =
    length-first len (div_ceil len size * size) (joined block (div_ceil len size))
    (div_ceil_times len size some).0 (length-joined block size (div_ceil len size) sized)

module _ (n : ℕ) (small : n ≤ 32) where
  length-tweaked_256 : (s a x : List ℕ) → length (tweaked_hash_256 n s a x) ≡ n
  unfolding tweaked_hash_256
  length-tweaked_256 s a x =
      let input : List ℕ = seed_block 64 n s ++ (compressed_address a ++ x) in
      length-first n 32 (sha256 input) small (length-sha256 input)

  length-first_512 : (m : List ℕ) → length (take n (sha512 m)) ≡ n
  length-first_512 m = length-first n 64 (sha512 m) (le_trans small (lit≤ tt)) (length-sha512 m)

  length-tweaked_512 : (s a x : List ℕ) → length (tweaked_hash_512 n s a x) ≡ n
  unfolding tweaked_hash_512
  length-tweaked_512 s a x =
      length-first_512 (seed_block 128 n s ++ (compressed_address a ++ x))

  length-code_256 : (key message : List ℕ) → length (take n (hmac_sha256 key message)) ≡ n
  length-code_256 key message =
      length-first n 32 (hmac_sha256 key message) small (length-hmac_sha256 key message)

  length-code_512 : (key message : List ℕ) → length (take n (hmac_sha512 key message)) ≡ n
  unfolding hmac_sha512
  length-code_512 key message =
      let block = key_block key in
      length-first_512 (masked 0x5c block ++ sha512 (masked 0x36 block ++ message))

length-mgf1_sha256 : (seed : List ℕ) (len : ℕ) → length (mgf1_sha256 seed len) ≡ len
unfolding mgf1_sha256
length-mgf1_sha256 seed len =
    let block : ℕ → List ℕ = λ i. sha256 (seed ++ big_endian i 4) in
    length-mask block 32 len (lit< tt) (λ i. length-sha256 _)

length-mgf1_sha512 : (seed : List ℕ) (len : ℕ) → length (mgf1_sha512 seed len) ≡ len
unfolding mgf1_sha512
length-mgf1_sha512 seed len =
    let block : ℕ → List ℕ = λ i. sha512 (seed ++ big_endian i 4) in
    length-mask block 64 len (lit< tt) (λ i. length-sha512 _)

pub sha2_category_1_lengths : (n m : ℕ) → n ≤ 32 → HasLength (sha2_category_1 n m) n
sha2_category_1_lengths n m small = record {
  f = length-tweaked_256 n small;
  h = λ s a l r. length-tweaked_256 n small s a (l ++ r);
  t = length-tweaked_256 n small;
  prf = length-tweaked_256 n small;
  prf_msg = λ key opt message. length-code_256 n small key (opt ++ message);
}

pub sha2_category_1_digest_length : (n m : ℕ) → HasDigestLength (sha2_category_1 n m) m
unfolding message_digest_256
sha2_category_1_digest_length n m = record { h_msg = λ r s root message. length-mgf1_sha256 _ m }

pub sha2_category_3_5_lengths : (n m : ℕ) → n ≤ 32 → HasLength (sha2_category_3_5 n m) n
sha2_category_3_5_lengths n m small = record {
  f = length-tweaked_256 n small;
  h = λ s a l r. length-tweaked_512 n small s a (l ++ r);
  t = length-tweaked_512 n small;
  prf = length-tweaked_256 n small;
  prf_msg = λ key opt message. length-code_512 n small key (opt ++ message);
}

pub sha2_category_3_5_digest_length : (n m : ℕ) → HasDigestLength (sha2_category_3_5 n m) m
unfolding message_digest_512
sha2_category_3_5_digest_length n m = record { h_msg = λ r s root message. length-mgf1_sha512 _ m }
