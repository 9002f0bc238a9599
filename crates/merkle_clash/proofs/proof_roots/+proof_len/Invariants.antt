use Rattle.merkle_clash.proofs.proof_roots.+proof_len.Given as goal

abbrev pub decreases-proof_len : goal.decreases-proof_len
decreases-proof_len l = l.height
