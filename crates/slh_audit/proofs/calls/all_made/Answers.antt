use Rattle.std.proofs.Common.{arith}
use Rattle.std.proofs.lemmas.Grind.{common_steps}
use Rattle.slh_audit.proofs.calls.all_made.Goals as goal

pub returns-then-forest : goal.returns-then-forest
returns-then-forest c = grind (arith, common_steps)

pub returns-else-forest : goal.returns-else-forest
returns-else-forest c = grind (arith, common_steps)
