use Rattle.merkle_clash.proofs.roots.+compare.Given as goal

abbrev pub decreases-compare : goal.decreases-compare
decreases-compare g l = l.height
