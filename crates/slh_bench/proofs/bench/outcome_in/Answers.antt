use Rattle.std.proofs.Common.{arith}
use Rattle.std.proofs.lemmas.Grind.{common_steps}
use Rattle.slh_bench.proofs.bench.outcome_in.Goals as goal

pub returns-in_err-signature : goal.returns-in_err-signature
returns-in_err-signature g c = grind (arith, common_steps)

pub sign_all-outcome-requires : goal.sign_all-outcome-requires
sign_all-outcome-requires g c = grind (arith, common_steps)
