use Rattle.std.proofs.Common.{arith}
use Rattle.std.proofs.lemmas.Grind.{common_steps}
use Rattle.slh_bench.proofs.bench.push_counts_line.Goals as goal

pub returns-in_err-push_slice : goal.returns-in_err-push_slice
returns-in_err-push_slice c = grind (arith, common_steps)

pub returns-in_err-push_number : goal.returns-in_err-push_number
returns-in_err-push_number c = grind (arith, common_steps)

pub returns : goal.returns
returns c = grind (arith, common_steps)
