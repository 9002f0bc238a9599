use Rattle.std.proofs.Common.{arith}
use Rattle.std.proofs.lemmas.Grind.{common_steps}
use Rattle.slh_manifest.proofs.checker.EntryChecker.finish.Goals as goal

pub returns-then-self : goal.returns-then-self
returns-then-self c = grind (arith, common_steps)
