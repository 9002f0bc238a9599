use Rattle.std.proofs.Common.{◌≡◌, ℕ, List, ◌++◌, ◌∙◌, ap}
use Rattle.hmac_sha256.specs.Hmac.{masked}
use Rattle.sha2.specs.Sha512.{sha512}
use Rattle.slh_hash.specs.HmacSha512.{hmac_sha512, key_block}
use Rattle.slh_hash.proofs.mac.Hmac512.finalize.Goals as goal

pub returns : goal.returns
unfolding hmac_sha512
returns c key m stood =
    let block : List ℕ = key_block key in
    let inner : c.finalize.result ≡ sha512 (masked 0x36 block ++ m) = c.finalize.ensures _ stood.begun in
    c.finalize-2.ensures _ (c.update.ensures _ stood.ready)
    ∙ ap (λ (d : List ℕ). sha512 (masked 0x5c block ++ d)) inner
