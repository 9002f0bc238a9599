use Rattle.std.proofs.Common.{length-append, arith}
use Rattle.hmac_sha256.specs.Hmac.{inner_block}
use Rattle.hmac_sha256.proofs.Keys.{length-inner_block}
use Rattle.hmac_sha256.proofs.mac.HMAC.absorbed.Goals as goal

pub returns-clause-length : goal.returns-clause-length
returns-clause-length c = λ key m held.
    omega (arith, c.absorbed.ensures.length _ held.inner, length-append (inner_block key) m, length-inner_block key)
