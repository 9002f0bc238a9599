use Rattle.std.proofs.Common.{arith}
use Rattle.std.proofs.lemmas.Grind.{common_steps}
use Rattle.line_serve.proofs.decimals.read_digits.Goals as goal

pub returns-then-byte-lt48 : goal.returns-then-byte-lt48
returns-then-byte-lt48 c = grind (arith, common_steps)

pub returns-then-next-from : goal.returns-then-next-from
returns-then-next-from c = grind (arith, common_steps)

pub returns : goal.returns
returns c = grind (arith, common_steps)
