use Rattle.std.proofs.Common.{arith}
use Rattle.std.proofs.lemmas.Grind.{common_steps}
use Rattle.slh_bench.proofs.bench.outcome_text.Goals as goal

pub returns-in_err-push_hex_line : goal.returns-in_err-push_hex_line
returns-in_err-push_hex_line c = grind (arith, common_steps)

pub returns-in_err-push_counts_line : goal.returns-in_err-push_counts_line
returns-in_err-push_counts_line c = grind (arith, common_steps)

pub returns : goal.returns
returns c = grind (arith, common_steps)
