use Rattle.slh_tests.proofs.keys.a_key_and_its_signature_are_those_worked_by_hand.Given as goal

abbrev pub ghosts-are_key_and_signature : goal.ghosts-are_key_and_signature
ghosts-are_key_and_signature g a = record { name = a.blank.name; parts = a.blank.parts }
