-- HMAC with SHA-256 (RFC 2104), as a function from a key and a message, both lists of bytes, to a
-- list of 32 bytes.
use Rattle.std.specs.Prelude.{ℕ, ◌-◌, List, ◌++◌, bit_xor, length, map, nat_lt, replicate}
use Rattle.std.specs.Prelude.{if◌then◌else◌}
use Rattle.sha256_lanes.specs.Sha256.{sha256}

-- the key itself, or the digest of one that is longer than a block (RFC 2104, section 2)
abbrev pub short_key : List ℕ → List ℕ
short_key key = if nat_lt 64 (length key) then sha256 key else key

-- the bytes, and zeros up to a block
abbrev pub zero_padded : List ℕ → List ℕ
zero_padded bytes = bytes ++ replicate (64 - length bytes) 0

-- the key as a block
abbrev pub key_block : List ℕ → List ℕ
key_block key = zero_padded (short_key key)

-- the bytes, each in an exclusive or with the mask
abbrev pub masked : ℕ → List ℕ → List ℕ
masked mask bytes = map (λ byte. bit_xor byte mask) bytes

-- the block before the message (RFC 2104: the key in an exclusive or with ipad)
unfoldable pub inner_block : List ℕ → List ℕ
inner_block key = masked 0x36 (key_block key)

-- the block before the inner digest (RFC 2104: the key in an exclusive or with opad)
unfoldable pub outer_block : List ℕ → List ℕ
outer_block key = masked 0x5c (key_block key)

-- the authentication code of a message under a key (RFC 2104, section 2)
unfoldable pub hmac_sha256 : List ℕ → List ℕ → List ℕ
hmac_sha256 key m = sha256 (outer_block key ++ sha256 (inner_block key ++ m))
