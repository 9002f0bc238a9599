-- What the states of messages in pieces stand for.
use Rattle.std.specs.Prelude.{◌≡◌, ℕ, List, ◌++◌}
use Rattle.hmac_sha256.specs.Hash.{StandsFor}
use Rattle.hmac_sha256.specs.Hmac.{masked}
use Rattle.hmac_sha256.specs.declared.hashing.Hash.{Hash}
use Rattle.sha512_lanes.specs.Hash.{StandsFor as StandsFor512}
use Rattle.sha512_lanes.specs.declared.hash.Hash512.{Hash512}
use Rattle.slh_hash.specs.HmacSha512.{key_block}

-- the kept randomizer and seed are r and s, and the hash has absorbed these, a root and a message
pub record Digests256 (rand pk_seed : List ℕ) (hash : Hash) (r s root m : List ℕ) : Type 0 where
  pub rand_is : rand ≡ r
  pub seed_is : pk_seed ≡ s
  pub absorbed : StandsFor hash (r ++ s ++ root ++ m)

-- the same over SHA-512
pub record Digests512 (rand pk_seed : List ℕ) (hash : Hash512) (r s root m : List ℕ) : Type 0 where
  pub rand_is : rand ≡ r
  pub seed_is : pk_seed ≡ s
  pub absorbed : StandsFor512 hash (r ++ s ++ root ++ m)

-- an inner and an outer hash have absorbed the key's block under their masks, the inner the message
-- after it
pub record Authenticates512 (inner outer : Hash512) (key m : List ℕ) : Type 0 where
  pub begun : StandsFor512 inner (masked 0x36 (key_block key) ++ m)
  pub ready : StandsFor512 outer (masked 0x5c (key_block key))
