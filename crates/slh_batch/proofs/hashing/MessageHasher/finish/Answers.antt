use Rattle.std.proofs.Common.{arith}
use Rattle.hmac_sha256.specs.Hash.{StandsFor, absorbed_bytes}
use Rattle.slh_batch.proofs.hashing.MessageHasher.finish.Goals as goal

pub returns-clause-few : goal.returns-clause-few
unfolding StandsFor absorbed_bytes
returns-clause-few c = λ m took. omega (arith, took.counted, c.args.self.few)
