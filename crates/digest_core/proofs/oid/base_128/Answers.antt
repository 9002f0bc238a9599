use Rattle.std.proofs.Common.{arith}
use Rattle.std.proofs.lemmas.Grind.{common_steps}
use Rattle.digest_core.proofs.oid.base_128.Goals as goal

pub returns-then-n : goal.returns-then-n
returns-then-n c = grind (arith, common_steps)

pub returns-then-n-2 : goal.returns-then-n-2
returns-then-n-2 c = grind (arith, common_steps)

pub returns-then-n-3 : goal.returns-then-n-3
returns-then-n-3 c = grind (arith, common_steps)

pub returns-then-n-4 : goal.returns-then-n-4
returns-then-n-4 c = grind (arith, common_steps)

pub returns-else-n-4 : goal.returns-else-n-4
returns-else-n-4 c = grind (arith, common_steps)
