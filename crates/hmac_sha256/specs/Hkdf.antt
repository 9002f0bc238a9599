-- HKDF with SHA-256 (RFC 5869), as functions from lists of bytes to lists of bytes.
use Rattle.std.specs.Prelude.{ℕ, zero, suc, ◌+◌, ◌/◌, List, [], ◌∷◌, ◌++◌, take}
use Rattle.hmac_sha256.specs.Hmac.{hmac_sha256}

-- the pseudorandom key from a salt and the input keying material (RFC 5869, 2.2)
abbrev pub hkdf_extract : List ℕ → List ℕ → List ℕ
hkdf_extract salt ikm = hmac_sha256 salt ikm

-- The 32 bytes T(i) of the output, from a pseudorandom key and the context's bytes; T(0) is empty.
-- A number i up to 255 is one byte (RFC 5869, 2.3).
unfoldable pub output_block : List ℕ → List ℕ → ℕ → List ℕ
output_block prk info zero = []
output_block prk info (suc i) = hmac_sha256 prk (output_block prk info i ++ info ++ suc i ∷ [])

-- T(1) to T(n), one after the other (RFC 5869, 2.3)
unfoldable pub output_blocks : List ℕ → List ℕ → ℕ → List ℕ
output_blocks prk info zero = []
output_blocks prk info (suc n) = output_blocks prk info n ++ output_block prk info (suc n)

-- the first `count` bytes of T(1), T(2) and so on: as many of these as that takes. The standard's
-- outputs have at most 255 * 32 bytes (RFC 5869, 2.3).
unfoldable pub hkdf_expand : List ℕ → List ℕ → ℕ → List ℕ
hkdf_expand prk info count = take count (output_blocks prk info ((count + 31) / 32))
