use Rattle.slh_tests.proofs.hash_l1.example_of_the_page.Given as goal

abbrev pub ghosts-next_value : goal.ghosts-next_value
ghosts-next_value g a = record { name = a.blank.name; parts = a.blank.parts }
