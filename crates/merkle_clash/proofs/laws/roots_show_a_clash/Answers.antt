use Rattle.std.proofs.Common.{length}
use Rattle.merkle_tree.proofs.Equations.{roots_bound}
use Rattle.merkle_tree.specs.Binding.{tree_pairs}
use Rattle.merkle_clash.proofs.Fitting.{roots_fit, shows}
use Rattle.merkle_clash.specs.Answers.{roots_answer}
use Rattle.merkle_clash.proofs.laws.roots_show_a_clash.Goals as goal

pub returns : goal.returns
returns c = record {
  found = λ H sized p q wp wq size roots differ.
      shows H (roots_answer H p q) (tree_pairs H (length q) p q) (roots_fit H p q size) (roots_bound H sized p q wp wq size roots differ);
}
