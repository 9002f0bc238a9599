use Rattle.std.proofs.Common.{ℕ, List, ◌++◌, ap, ◌∙◌}
use Rattle.hmac_sha256.specs.Hmac.{hmac_sha256, outer_block}
use Rattle.sha256_lanes.specs.Sha256.{sha256}
use Rattle.hmac_sha256.proofs.mac.HMAC.finalize.Goals as goal

pub returns : goal.returns
unfolding hmac_sha256
returns c = λ key m held.
    c.finalize_with.ensures _ held.outer
    ∙ ap (λ (digest : List ℕ). sha256 (outer_block key ++ digest)) (c.finalize.ensures _ held.inner)
