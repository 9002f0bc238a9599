use Rattle.std.proofs.Common.{arith}
use Rattle.std.proofs.lemmas.Grind.{common_steps}
use Rattle.line_serve.proofs.write.flush_long.Goals as goal

pub returns-then-len-lt-MAX_WAITING : goal.returns-then-len-lt-MAX_WAITING
returns-then-len-lt-MAX_WAITING g c = grind (arith, common_steps)

pub returns : goal.returns
returns g c = grind (arith, common_steps)
