use Rattle.slh_dsa.proofs.verifying_key.VerifyingKey.verify_pure.Given as goal

abbrev pub ghosts-verify_frame_on : goal.ghosts-verify_frame_on
ghosts-verify_frame_on g a = record { name = a.blank.name; parts = a.blank.parts }
