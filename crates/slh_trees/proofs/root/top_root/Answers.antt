use Rattle.std.proofs.Common.{arith}
use Rattle.std.proofs.lemmas.Grind.{common_steps}
use Rattle.slh_trees.specs.Keys.{top_root}
use Rattle.slh_trees.proofs.root.top_root.Goals as goal

pub returns-clause-value : goal.returns-clause-value
unfolding top_root
returns-clause-value g c = grind (arith, common_steps)
