-- The functions of the parameter sets over SHA-2 (FIPS 205, section 11.2), as the standard writes
-- them. SHA-256, SHA-512 and HMAC are the definitions of `hmac_sha256`, `sha2` and `slh_hash`.
use Rattle.std.specs.Prelude.{ℕ, ◌-◌, List, [], ◌++◌, take, slice_range}
use Rattle.sha256_lanes.specs.Sha256.{sha256}
use Rattle.sha2.specs.Sha512.{sha512}
use Rattle.fips205_law.specs.Bytes.{toByte}
use Rattle.fips205_law.specs.Loops.{for_below}
use Rattle.fips205_law.specs.Parameters.{ceil_div}

-- the first l bytes
abbrev pub Trunc : ℕ → List ℕ → List ℕ
Trunc l x = take l x

-- the compressed address: bytes 3, 8 to 15, 19, and 20 to 31
abbrev pub compressed : List ℕ → List ℕ
compressed ADRS =
    slice_range ADRS 3 4 ++ slice_range ADRS 8 16 ++ slice_range ADRS 19 20
    ++ slice_range ADRS 20 32

-- MGF1 (RFC 8017, appendix B.2.1) with a hash of hash_len bytes: the loop of step 3 over a counter
-- of four bytes, and the first bytes of what it made, step 4
unfoldable pub mgf1 : (List ℕ → List ℕ) → ℕ → List ℕ → ℕ → List ℕ
mgf1 hash hash_len seed mask_len =
    take mask_len (for_below (ceil_div mask_len hash_len)
    (λ counter T. T ++ hash (seed ++ toByte counter 4)) [])

-- F, H, T and PRF over either hash, for values of n bytes: the public seed stands in a block of its
-- own
abbrev pub with_sha256 : ℕ → List ℕ → List ℕ → List ℕ → List ℕ
with_sha256 n PKseed ADRS M = Trunc n (sha256 (PKseed ++ toByte 0 (64 - n) ++ compressed ADRS ++ M))

abbrev pub with_sha512 : ℕ → List ℕ → List ℕ → List ℕ → List ℕ
with_sha512 n PKseed ADRS M = Trunc n
    (sha512 (PKseed ++ toByte 0 (128 - n) ++ compressed ADRS ++ M))
