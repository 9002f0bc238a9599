use Rattle.std.proofs.Common.{arith}
use Rattle.std.proofs.lemmas.Grind.{common_steps}
use Rattle.line_serve.proofs.script.Script.next.Goals as goal

pub returns-then-fails : goal.returns-then-fails
returns-then-fails c = grind (arith, common_steps)

pub returns : goal.returns
returns c = grind (arith, common_steps)
