use Rattle.std.proofs.Common.{arith}
use Rattle.std.proofs.lemmas.Grind.{common_steps}
use Rattle.line_serve.proofs.text.push_hex.Goals as goal

pub returns-in_err-resize : goal.returns-in_err-resize
returns-in_err-resize c = grind (arith, common_steps)

pub returns : goal.returns
returns c = grind (arith, common_steps)
