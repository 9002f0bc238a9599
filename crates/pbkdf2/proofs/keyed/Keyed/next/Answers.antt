use Rattle.std.proofs.Common.{◌∙◌, ap, ℕ, List, ◌++◌}
use Rattle.hmac_sha256.specs.Hmac.{hmac_sha256, inner_block, outer_block}
use Rattle.sha256_lanes.specs.Sha256.{sha256}
use Rattle.pbkdf2.proofs.keyed.Keyed.next.Goals as goal

pub returns : goal.returns
unfolding hmac_sha256
returns c = λ key keyed.
    c.finished-2.ensures (outer_block key) keyed.outer
    ∙ ap (λ (t : List ℕ). sha256 (outer_block key ++ t)) (c.finished.ensures (inner_block key) keyed.inner)
