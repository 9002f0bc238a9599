use Rattle.std.proofs.Common.{arith}
use Rattle.std.proofs.lemmas.Grind.{common_steps}
use Rattle.whole_files.proofs.whole.mode_for.Goals as goal

pub returns-in-Err : goal.returns-in-Err
returns-in-Err g c = grind (arith, common_steps)

pub returns-in-Ok-None : goal.returns-in-Ok-None
returns-in-Ok-None g c = grind (arith, common_steps)

pub returns-then-eq : goal.returns-then-eq
returns-then-eq g c = grind (arith, common_steps)

pub returns-else-eq : goal.returns-else-eq
returns-else-eq g c = grind (arith, common_steps)
