-- What the numbers stand for as which a state of a message in pieces is put aside.
use Rattle.std.specs.Prelude.{◌≡◌, ℕ, List, Bool, true, false, ◌==◌}
use Rattle.hmac_sha256.specs.Hash.{IsClear, StandsFor, new_hash}
use Rattle.hmac_sha256.specs.Hmac.{inner_block, masked}
use Rattle.sha512_lanes.specs.Hash.{IsClear as IsClear512, StandsFor as StandsFor512}
use Rattle.sha512_lanes.specs.Hash.{new_hash as new_hash_512}
use Rattle.slh_hash.specs.HmacSha512.{key_block}
use Rattle.slh_hash.specs.declared.resumable.Hashes.{Hashes}

-- whether the sets whose values have so many bytes hash messages by SHA-256 (FIPS 205, section
-- 11.2.1), and not by SHA-512 (section 11.2.2)
abbrev pub is_category_1 : ℕ → Bool
is_category_1 n = n == 16

-- two hashes that have absorbed nothing
abbrev pub new_hashes : Hashes
new_hashes = record { sha256 = new_hash; sha512 = new_hash_512 }

-- the hash of SHA-256, or else that of SHA-512, has absorbed the message
abbrev pub HasHashed : Bool → Hashes → List ℕ → Type 0
HasHashed true hashes m = StandsFor hashes.sha256 m
HasHashed false hashes m = StandsFor512 hashes.sha512 m

-- zeros stand behind the bytes that the hash of SHA-256, or else that of SHA-512, holds
abbrev pub HasClearRest : Bool → Hashes → Type 0
HasClearRest true hashes = IsClear hashes.sha256
HasClearRest false hashes = IsClear512 hashes.sha512

-- the hash of the other function, beside one that has absorbed nothing
abbrev pub other_hash : Bool → Hashes → Hashes
other_hash true hashes = record { sha256 = new_hash; sha512 = hashes.sha512 }
other_hash false hashes = record { sha256 = hashes.sha256; sha512 = new_hash_512 }

-- the block that HMAC over the hash function absorbs before a message
abbrev pub mac_block : Bool → List ℕ → List ℕ
mac_block true key = inner_block key
mac_block false key = masked 0x36 (key_block key)
