use Rattle.slh_tests.proofs.hash_l35.wide_hashes_of_an_address.Given as goal

abbrev pub ghosts-are_wide_hashes : goal.ghosts-are_wide_hashes
ghosts-are_wide_hashes g a = record { name = a.blank.name; parts = a.blank.parts }
