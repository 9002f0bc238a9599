-- The functions of the SHA-2 parameter sets (FIPS 205, sections 11.2.1 and 11.2.2).
use Rattle.std.specs.Int.{div_ceil}
use Rattle.std.specs.Prelude.{ℕ, ◌-◌, List, ◌++◌, take, replicate}
use Rattle.sha256_lanes.specs.Sha256.{sha256}
use Rattle.hmac_sha256.specs.Hmac.{hmac_sha256}
use Rattle.sha2.specs.Sha512.{sha512}
use Rattle.slh_core.specs.Bytes.{big_endian, joined}
use Rattle.slh_core.specs.Address.{compressed_address}
use Rattle.slh_core.specs.Suite.{Suite}
use Rattle.slh_hash.specs.HmacSha512.{hmac_sha512}

-- the public seed, followed by as many zeros as make it a block of so many bytes
abbrev pub seed_block : ℕ → ℕ → List ℕ → List ℕ
seed_block block_len n s = s ++ replicate (block_len - n) 0

-- n bytes of the hash of the seed's block, the compressed address and an input
unfoldable pub tweaked_hash_256 : ℕ → List ℕ → List ℕ → List ℕ → List ℕ
tweaked_hash_256 n s a x = take n (sha256 (seed_block 64 n s ++ (compressed_address a ++ x)))

-- the same over SHA-512
unfoldable pub tweaked_hash_512 : ℕ → List ℕ → List ℕ → List ℕ → List ℕ
tweaked_hash_512 n s a x = take n (sha512 (seed_block 128 n s ++ (compressed_address a ++ x)))

-- the first bytes of the hashes of a seed and a counter of four bytes, from 0 on
unfoldable pub mgf1_sha256 : List ℕ → ℕ → List ℕ
mgf1_sha256 seed len =
    take len (joined (λ i. sha256 (seed ++ big_endian i 4)) (div_ceil len 32))

-- the same over SHA-512
unfoldable pub mgf1_sha512 : List ℕ → ℕ → List ℕ
mgf1_sha512 seed len =
    take len (joined (λ i. sha512 (seed ++ big_endian i 4)) (div_ceil len 64))

-- the digest of a message: MGF1 over the randomizer, the public seed and a hash, cut to m bytes
unfoldable pub message_digest_256 : ℕ → List ℕ → List ℕ → List ℕ → List ℕ → List ℕ
message_digest_256 m r s root message =
    mgf1_sha256 (r ++ s ++ sha256 (r ++ s ++ root ++ message)) m

-- the same over SHA-512
unfoldable pub message_digest_512 : ℕ → List ℕ → List ℕ → List ℕ → List ℕ → List ℕ
message_digest_512 m r s root message =
    mgf1_sha512 (r ++ s ++ sha512 (r ++ s ++ root ++ message)) m

-- the suite of security category 1, whose values have n bytes and whose digests m
abbrev pub sha2_category_1 : ℕ → ℕ → Suite
sha2_category_1 n m = record {
  f = tweaked_hash_256 n;
  h = λ s a l r. tweaked_hash_256 n s a (l ++ r);
  t = tweaked_hash_256 n;
  prf = tweaked_hash_256 n;
  prf_msg = λ key opt message. take n (hmac_sha256 key (opt ++ message));
  h_msg = message_digest_256 m;
}

-- the suite of the categories 3 and 5
abbrev pub sha2_category_3_5 : ℕ → ℕ → Suite
sha2_category_3_5 n m = record {
  f = tweaked_hash_256 n;
  h = λ s a l r. tweaked_hash_512 n s a (l ++ r);
  t = tweaked_hash_512 n;
  prf = tweaked_hash_256 n;
  prf_msg = λ key opt message. take n (hmac_sha512 key (opt ++ message));
  h_msg = message_digest_512 m;
}
