use Rattle.std.proofs.Common.{arith}
use Rattle.std.proofs.lemmas.Grind.{common_steps}
use Rattle.slh_bench.proofs.bench.push_head_line.Goals as goal

pub returns-in_err-push_slice : goal.returns-in_err-push_slice
returns-in_err-push_slice c = grind (arith, common_steps)

pub returns-in_err-push_slice-2 : goal.returns-in_err-push_slice-2
returns-in_err-push_slice-2 c = grind (arith, common_steps)

pub returns-in_err-push_slice-3 : goal.returns-in_err-push_slice-3
returns-in_err-push_slice-3 c = grind (arith, common_steps)

pub returns-in_err-push_number : goal.returns-in_err-push_number
returns-in_err-push_number c = grind (arith, common_steps)
