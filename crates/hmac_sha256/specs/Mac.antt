-- What an `HMAC` stands for: a key, and the list of the bytes that it has absorbed under it.
use Rattle.std.specs.Prelude.{ℕ, List, ◌++◌}
use Rattle.hmac_sha256.specs.Hash.{StandsFor, absorbed_bytes}
use Rattle.hmac_sha256.specs.Hmac.{inner_block, outer_block}
use Rattle.hmac_sha256.specs.declared.mac.HMAC.{HMAC}

-- how many bytes an HMAC's inner hash has absorbed, the 64 of the key's block among them
unfoldable pub mac_absorbed_bytes : HMAC → ℕ
mac_absorbed_bytes mac = absorbed_bytes mac.inner

-- The HMAC stands for the message m under the key: its inner hash stands for the key's inner block
-- and m, its outer hash for the key's outer block.
pub record Authenticates (mac : HMAC) (key m : List ℕ) : Type 0 where
  pub inner : StandsFor mac.inner (inner_block key ++ m)
  pub outer : StandsFor mac.outer (outer_block key)
