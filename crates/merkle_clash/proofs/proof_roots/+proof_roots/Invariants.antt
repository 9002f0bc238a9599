use Rattle.merkle_clash.proofs.proof_roots.+proof_roots.Given as goal

abbrev pub decreases-proof_roots : goal.decreases-proof_roots
decreases-proof_roots g l = l.height
