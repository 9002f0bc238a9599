use Rattle.std.proofs.Common.{arith}
use Rattle.std.proofs.lemmas.Grind.{common_steps}
use Rattle.slh_bench.proofs.bench.sign_one.Goals as goal

pub sign_checked-requires : goal.sign_checked-requires
sign_checked-requires g c = grind (arith, common_steps)

pub is_valid-requires : goal.is_valid-requires
is_valid-requires g c = grind (arith, common_steps)
