use Rattle.std.proofs.Common.{arith}
use Rattle.std.proofs.lemmas.Grind.{common_steps}
use Rattle.slh_log.proofs.checking.check_leaf.Goals as goal

pub returns-then-index-checkpoint : goal.returns-then-index-checkpoint
returns-then-index-checkpoint c = grind (arith, common_steps)

pub returns-then-proof-path_len : goal.returns-then-proof-path_len
returns-then-proof-path_len c = grind (arith, common_steps)

pub returns-then-not-check_inclusion : goal.returns-then-not-check_inclusion
returns-then-not-check_inclusion c = grind (arith, common_steps)

pub returns : goal.returns
returns c = grind (arith, common_steps)
