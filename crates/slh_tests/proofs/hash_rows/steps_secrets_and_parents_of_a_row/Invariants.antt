use Rattle.slh_tests.proofs.hash_rows.steps_secrets_and_parents_of_a_row.Given as goal

abbrev pub ghosts-are_rows : goal.ghosts-are_rows
ghosts-are_rows g a = record { name = a.blank.name; parts = a.blank.parts }
