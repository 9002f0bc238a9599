use Rattle.std.proofs.Common.{arith}
use Rattle.std.proofs.lemmas.Grind.{common_steps}
use Rattle.slh_log.proofs.checking.check_presence.Goals as goal

pub returns-then-index-checkpoint : goal.returns-then-index-checkpoint
returns-then-index-checkpoint c = grind (arith, common_steps)

pub returns-then-entry-gt-MAX_MESSAGE : goal.returns-then-entry-gt-MAX_MESSAGE
returns-then-entry-gt-MAX_MESSAGE c = grind (arith, common_steps)

pub returns : goal.returns
returns c = grind (arith, common_steps)
