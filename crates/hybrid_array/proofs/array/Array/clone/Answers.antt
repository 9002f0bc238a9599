use Rattle.std.proofs.Common.{arith}
use Rattle.std.proofs.lemmas.Grind.{common_steps}
use Rattle.hybrid_array.proofs.array.Array.clone.Goals as goal

pub returns-in_err-to_vec : goal.returns-in_err-to_vec
returns-in_err-to_vec g c = grind (arith, common_steps)

pub returns : goal.returns
returns g c = grind (arith, common_steps)
