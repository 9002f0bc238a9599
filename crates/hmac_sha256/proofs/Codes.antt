-- How long an authentication code is.
use Rattle.std.proofs.Common.{◌≡◌, ℕ, List, ◌++◌, length}
use Rattle.hmac_sha256.specs.Hmac.{hmac_sha256, inner_block, outer_block}
use Rattle.sha256_lanes.specs.Sha256.{sha256}
use Rattle.sha256_lanes.proofs.Digest.{length-sha256}

-- an authentication code has 32 bytes
pub length-hmac_sha256 : (key m : List ℕ) → length (hmac_sha256 key m) ≡ 32
unfolding hmac_sha256
length-hmac_sha256 key m = length-sha256 (outer_block key ++ sha256 (inner_block key ++ m))
