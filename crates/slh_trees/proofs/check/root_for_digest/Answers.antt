use Rattle.std.proofs.Common.{arith}
use Rattle.std.proofs.lemmas.Grind.{common_steps}
use Rattle.slh_trees.specs.Checking.{digest_root}
use Rattle.slh_trees.proofs.check.root_for_digest.Goals as goal

pub returns-clause-value : goal.returns-clause-value
unfolding digest_root
returns-clause-value g c = grind (arith, common_steps)
