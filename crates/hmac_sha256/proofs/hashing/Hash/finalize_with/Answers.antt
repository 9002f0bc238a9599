use Rattle.std.proofs.Common.{arith, refl}
use Rattle.hmac_sha256.proofs.Absorbing.{HasAbsorbed_tail}
use Rattle.hmac_sha256.proofs.hashing.Hash.finalize_with.Goals as goal

pub returns-then-tail-le-MAX_TAIL : goal.returns-then-tail-le-MAX_TAIL
returns-then-tail-le-MAX_TAIL c = λ m held.
    c.finish_in_one_block.ensures _
    (HasAbsorbed_tail c.args.self.now m c.args.tail.now _ held c.if-self-eq0.true (omega arith) refl)
