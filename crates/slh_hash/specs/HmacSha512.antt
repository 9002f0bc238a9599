-- HMAC with SHA-512 (RFC 2104), as a function from a key and a message, both lists of bytes, to a
-- list of 64 bytes.
use Rattle.std.specs.Prelude.{ℕ, ◌-◌, List, ◌++◌, length, nat_lt, replicate, if◌then◌else◌}
use Rattle.hmac_sha256.specs.Hmac.{masked}
use Rattle.sha2.specs.Sha512.{sha512}

-- the key itself, or the digest of one that is longer than a block of 128 bytes
abbrev pub short_key : List ℕ → List ℕ
short_key key = if nat_lt 128 (length key) then sha512 key else key

-- the bytes, and zeros up to a block
abbrev pub zero_padded : List ℕ → List ℕ
zero_padded bytes = bytes ++ replicate (128 - length bytes) 0

-- the key as a block
abbrev pub key_block : List ℕ → List ℕ
key_block key = zero_padded (short_key key)

-- the authentication code of a message under a key: the masks are ipad and opad
unfoldable pub hmac_sha512 : List ℕ → List ℕ → List ℕ
hmac_sha512 key m =
    let block = key_block key in
    sha512 (masked 0x5c block ++ sha512 (masked 0x36 block ++ m))
