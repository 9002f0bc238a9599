use Rattle.std.proofs.Common.{arith}
use Rattle.std.proofs.lemmas.Grind.{common_steps}
use Rattle.slh_bench.proofs.bench.write_outcome.Goals as goal

pub returns-in_err-text : goal.returns-in_err-text
returns-in_err-text g c = grind (arith, common_steps)

pub returns-in_err-write_all : goal.returns-in_err-write_all
returns-in_err-write_all g c = grind (arith, common_steps)

pub returns : goal.returns
returns g c = grind (arith, common_steps)
