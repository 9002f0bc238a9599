use Rattle.hmac_sha256.specs.Hmac.{outer_block}
use Rattle.hmac_sha256.proofs.mac.HMAC.with_inner.Goals as goal

pub returns-clause-stands : goal.returns-clause-stands
unfolding outer_block
returns-clause-stands c = λ m held. record {
  inner = held;
  outer = rw c.key_block.ensures at c.started.ensures.stands;
}
