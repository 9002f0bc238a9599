use Rattle.std.proofs.Common.{arith}
use Rattle.std.proofs.lemmas.Grind.{common_steps}
use Rattle.slh_log.proofs.decoding.decimal_size.Goals as goal

pub returns-in_err-size : goal.returns-in_err-size
returns-in_err-size c = grind (arith, common_steps)

pub returns-then-ne : goal.returns-then-ne
returns-then-ne c = grind (arith, common_steps)

pub returns : goal.returns
returns c = grind (arith, common_steps)
