use Rattle.std.proofs.Common.{arith}
use Rattle.std.proofs.lemmas.Grind.{common_steps}
use Rattle.line_serve.proofs.pending.Pending.extend.Goals as goal

pub returns-then-self : goal.returns-then-self
returns-then-self c = grind (arith, common_steps)

pub returns-then-saturating_add-gt-MAX_LINE : goal.returns-then-saturating_add-gt-MAX_LINE
returns-then-saturating_add-gt-MAX_LINE c = grind (arith, common_steps)

pub returns : goal.returns
returns c = grind (arith, common_steps)
