use Rattle.std.proofs.Common.{◌++◌, length, map}
use Rattle.merkle_tree.proofs.Equations.{entries_bound, is_checked}
use Rattle.merkle_tree.specs.Binding.{entry_pairs, grown_pairs}
use Rattle.merkle_tree.specs.Tree.{entries_root, leaf_hash, tree_root}
use Rattle.merkle_clash.proofs.EntryPairs.{entries_fit}
use Rattle.merkle_clash.proofs.Fitting.{shows}
use Rattle.merkle_clash.specs.Answers.{entries_answer}
use Rattle.merkle_clash.proofs.laws.entries_show_a_clash.Goals as goal

pub returns : goal.returns
returns c = record {
  found = λ H sized a b proof wide holds differ.
      let p = map (leaf_hash H) a in
      let q = map (leaf_hash H) b in
      let checked = is_checked H (length a) (length b) (entries_root H a) (entries_root H b) proof holds in
      shows H (entries_answer H a b proof) (entry_pairs a b ++ grown_pairs H p q (tree_root H p) proof)
      (entries_fit H a b proof checked.some checked.within checked.size)
      (entries_bound H sized a b proof wide holds differ);
}
