use Rattle.std.proofs.Common.{arith}
use Rattle.std.proofs.lemmas.Grind.{common_steps}
use Rattle.hybrid_array.proofs.array.Array.concat.Goals as goal

pub returns-in_err-items : goal.returns-in_err-items
returns-in_err-items g c = grind (arith, common_steps)

pub returns-in_err-append : goal.returns-in_err-append
returns-in_err-append g c = grind (arith, common_steps)

pub returns-in_err-append-2 : goal.returns-in_err-append-2
returns-in_err-append-2 g c = grind (arith, common_steps)

pub returns : goal.returns
returns g c = grind (arith, common_steps)
