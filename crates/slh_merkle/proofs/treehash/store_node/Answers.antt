use Rattle.std.proofs.Common.{rules, arith}
use Rattle.std.proofs.lemmas.List.{same_lists, places}
use Rattle.slh_merkle.specs.Treehash.{stored_node}
use Rattle.slh_merkle.proofs.treehash.store_node.Goals as goal

pub returns-clause-others : goal.returns-clause-others
unfolding stored_node
returns-clause-others g c = λ k other. same_lists _ _ (search (rules, places)) (λ i d h. grind (arith, places))
