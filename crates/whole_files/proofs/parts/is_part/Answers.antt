use Rattle.std.proofs.Common.{arith}
use Rattle.std.proofs.lemmas.Grind.{common_steps, elements}
use Rattle.whole_files.proofs.parts.is_part.Goals as goal

pub returns-then-digits-eq-DIGITS : goal.returns-then-digits-eq-DIGITS
returns-then-digits-eq-DIGITS c = grind (arith, elements)

pub returns-else-digits-eq-DIGITS : goal.returns-else-digits-eq-DIGITS
returns-else-digits-eq-DIGITS c = grind (arith, common_steps)
