use Rattle.std.proofs.Common.{arith}
use Rattle.std.proofs.lemmas.Grind.{common_steps}
use Rattle.slh_dsa.proofs.verifying_key.VerifyingKey.verify_slices.Goals as goal

pub returns-then-ne : goal.returns-then-ne
returns-then-ne g c = grind (arith, common_steps)

pub returns : goal.returns
returns g c = grind (arith, common_steps)
