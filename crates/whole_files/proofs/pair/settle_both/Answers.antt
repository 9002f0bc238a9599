use Rattle.std.proofs.Common.{arith}
use Rattle.std.proofs.lemmas.Grind.{common_steps}
use Rattle.whole_files.proofs.pair.settle_both.Goals as goal

pub returns-in-Settled : goal.returns-in-Settled
returns-in-Settled g c = grind (arith, common_steps)

pub returns-in-Unsettled : goal.returns-in-Unsettled
returns-in-Unsettled g c = grind (arith, common_steps)
