use Rattle.slh_tests.proofs.hash_l1.hashes_of_an_address.Given as goal

abbrev pub ghosts-are_hashes : goal.ghosts-are_hashes
ghosts-are_hashes g a = record { name = a.blank.name; parts = a.blank.parts }
