use Rattle.slh_dsa.proofs.traits.SigningKeyRandomizedSignerSignature.try_sign_with_rng.Given as goal

abbrev pub ghosts-sign_drawn : goal.ghosts-sign_drawn
ghosts-sign_drawn g a = record { name = a.blank.name; parts = a.blank.parts }
