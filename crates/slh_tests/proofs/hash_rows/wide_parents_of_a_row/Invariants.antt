use Rattle.slh_tests.proofs.hash_rows.wide_parents_of_a_row.Given as goal

abbrev pub ghosts-are_wide_parents : goal.ghosts-are_wide_parents
ghosts-are_wide_parents g a = record { name = a.blank.name; parts = a.blank.parts }
