use Rattle.std.proofs.Common.{arith}
use Rattle.std.proofs.lemmas.Grind.{common_steps}
use Rattle.slh_bench.proofs.bench.read_bench.Goals as goal

pub returns-then-len-ne4 : goal.returns-then-len-ne4
returns-then-len-ne4 c = grind (arith, common_steps)

pub returns-in_err-set : goal.returns-in_err-set
returns-in_err-set c = grind (arith, common_steps)

pub returns-in_err-number : goal.returns-in_err-number
returns-in_err-number c = grind (arith, common_steps)

pub returns-in_err-count : goal.returns-in_err-count
returns-in_err-count c = grind (arith, common_steps)

pub returns : goal.returns
returns c = grind (arith, common_steps)
