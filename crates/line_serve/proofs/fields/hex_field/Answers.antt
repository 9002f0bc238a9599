use Rattle.std.proofs.Common.{arith}
use Rattle.std.proofs.lemmas.Grind.{common_steps}
use Rattle.line_serve.proofs.fields.hex_field.Goals as goal

pub returns-then-is_only_dash : goal.returns-then-is_only_dash
returns-then-is_only_dash c = grind (arith, common_steps)

pub returns-in_err-resize : goal.returns-in_err-resize
returns-in_err-resize c = grind (arith, common_steps)

pub returns-then-decode : goal.returns-then-decode
returns-then-decode c = grind (arith, common_steps)

pub returns : goal.returns
returns c = grind (arith, common_steps)
