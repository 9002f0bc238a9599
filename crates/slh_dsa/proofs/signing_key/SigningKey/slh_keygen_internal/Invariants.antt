use Rattle.slh_dsa.proofs.signing_key.SigningKey.slh_keygen_internal.Given as goal

abbrev pub ghosts-keygen_on : goal.ghosts-keygen_on
ghosts-keygen_on g a = record { name = a.blank.name; parts = a.blank.parts }
