use Rattle.std.proofs.Common.{arith}
use Rattle.std.proofs.lemmas.Grind.{common_steps}
use Rattle.hmac_sha256.proofs.mac.started.Goals as goal

pub returns : goal.returns
returns c = grind (arith, common_steps)
