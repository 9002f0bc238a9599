use Rattle.std.proofs.Common.{arith}
use Rattle.std.proofs.lemmas.Grind.{common_steps}
use Rattle.slh_manifest.proofs.checker.EntryChecker.update.Goals as goal

pub returns-then-piece-self : goal.returns-then-piece-self
returns-then-piece-self c = grind (arith, common_steps)

pub returns-else-piece-self : goal.returns-else-piece-self
returns-else-piece-self c = grind (arith, common_steps)
