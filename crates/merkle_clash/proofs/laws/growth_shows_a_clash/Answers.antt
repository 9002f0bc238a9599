use Rattle.std.proofs.Common.{length}
use Rattle.sha256_lanes.proofs.Digest.{length-sha256}
use Rattle.sha256_lanes.specs.Sha256.{sha256}
use Rattle.merkle_tree.proofs.Equations.{digests_bound, is_checked}
use Rattle.merkle_tree.specs.Binding.{grown_pairs}
use Rattle.merkle_tree.specs.Tree.{tree_root}
use Rattle.merkle_clash.proofs.Fitting.{growth_fits, shows}
use Rattle.merkle_clash.specs.Answers.{growth_answer}
use Rattle.merkle_clash.proofs.laws.growth_shows_a_clash.Goals as goal

pub returns-clause-found : goal.returns-clause-found
returns-clause-found c = λ H sized p q proof wp wq wr holds differ.
    let checked = is_checked H (length p) (length q) (tree_root H p) (tree_root H q) proof holds in
    shows H (growth_answer H p q proof) (grown_pairs H p q (tree_root H p) proof)
    (growth_fits H p q proof checked.some checked.within checked.size)
    (digests_bound H sized p q proof wp wq wr holds differ)

pub returns-clause-sha256 : goal.returns-clause-sha256
returns-clause-sha256 c = λ p q proof wp wq wr holds differ. returns-clause-found c sha256 length-sha256 p q proof wp wq wr holds differ
