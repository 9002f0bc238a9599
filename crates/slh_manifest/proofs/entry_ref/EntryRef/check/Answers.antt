use Rattle.std.proofs.Common.{arith}
use Rattle.std.proofs.lemmas.Grind.{common_steps}
use Rattle.slh_manifest.proofs.entry_ref.EntryRef.check.Goals as goal

pub returns-in-Err : goal.returns-in-Err
returns-in-Err g c = grind (arith, common_steps)

pub returns-in-Ok-Missing : goal.returns-in-Ok-Missing
returns-in-Ok-Missing g c = grind (arith, common_steps)

pub returns-in-Ok-Longer : goal.returns-in-Ok-Longer
returns-in-Ok-Longer g c = grind (arith, common_steps)

pub returns-then-eq : goal.returns-then-eq
returns-then-eq g c = grind (arith, common_steps)

pub returns-else-len-self : goal.returns-else-len-self
returns-else-len-self g c = grind (arith, common_steps)
