use Rattle.std.proofs.Common.{[], length, get_or}
use Rattle.merkle_tree.proofs.Included.{inclusion_bound, is_checked}
use Rattle.merkle_tree.specs.Binding.{climb_pairs}
use Rattle.merkle_tree.specs.Climb.{path_sides}
use Rattle.merkle_tree.specs.Tree.{inclusion_path, tree_root}
use Rattle.merkle_clash.proofs.Fitting.{inclusion_fits, shows}
use Rattle.merkle_clash.specs.Answers.{inclusion_answer}
use Rattle.merkle_clash.proofs.laws.inclusion_shows_a_clash.Goals as goal

pub returns : goal.returns
returns c = record {
  found = λ H sized i q x path wq wp holds differ.
      let checked = is_checked H i (length q) x (tree_root H q) path holds in
      shows H (inclusion_answer H q i x path) (climb_pairs H x (get_or q i []) (path_sides i (length q)) path (inclusion_path H q i))
      (inclusion_fits H q i x path checked.inside checked.size)
      (inclusion_bound H sized i q x path wq wp holds differ);
}
