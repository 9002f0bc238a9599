use Rattle.slh_dsa.proofs.signing_key.SigningKey.sign_checked.Given as goal

abbrev pub ghosts-sign_checked_on : goal.ghosts-sign_checked_on
ghosts-sign_checked_on g a = record { name = a.blank.name; parts = a.blank.parts }
