-- PBKDF2 (RFC 8018, 5.2) with HMAC-SHA-256 as its function, as a function of lists of bytes.
use Rattle.std.specs.Prelude.{ℕ, zero, suc, ◌+◌, ◌-◌, ◌/◌, List, [], ◌∷◌, ◌++◌, bit_xor, take}
use Rattle.std.specs.Int.{w32, to_be_bytes}
use Rattle.hmac_sha256.specs.Hmac.{hmac_sha256}

-- the sum of two lists, byte by byte
unfoldable pub added : List ℕ → List ℕ → List ℕ
added (x ∷ xs) (y ∷ ys) = bit_xor x y ∷ added xs ys
added _ _ = []

-- the code k steps after the first one, each under the password of the one before it
unfoldable pub iterated : List ℕ → List ℕ → ℕ → List ℕ
iterated password first zero = first
iterated password first (suc k) = hmac_sha256 password (iterated password first k)

-- the sum of the first one and the k after it
unfoldable pub summed : List ℕ → List ℕ → ℕ → List ℕ
summed password first zero = first
summed password first (suc k) = added (summed password first k) (iterated password first (suc k))

-- the first code of block i
abbrev pub first_code : List ℕ → List ℕ → ℕ → List ℕ
first_code password salt i = hmac_sha256 password (salt ++ to_be_bytes w32 i)

-- block i, counted from 1, by so many codes (RFC 8018, 5.2, F)
unfoldable pub block : List ℕ → List ℕ → ℕ → ℕ → List ℕ
block password salt count i = summed password (first_code password salt i) (count - 1)

-- the first n blocks
unfoldable pub blocks : List ℕ → List ℕ → ℕ → ℕ → List ℕ
blocks password salt count zero = []
blocks password salt count (suc n) =
    blocks password salt count n ++ block password salt count (suc n)

-- a key of n bytes, from a password, a salt and the count of iterations (RFC 8018, 5.2)
unfoldable pub pbkdf2 : List ℕ → List ℕ → ℕ → ℕ → List ℕ
pbkdf2 password salt count n = take n (blocks password salt count ((n + 31) / 32))
