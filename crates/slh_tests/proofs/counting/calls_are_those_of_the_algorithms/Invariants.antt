use Rattle.slh_tests.proofs.counting.calls_are_those_of_the_algorithms.Given as goal

abbrev pub ghosts-are_calls : goal.ghosts-are_calls
ghosts-are_calls g a = record { name = a.blank.name; parts = a.blank.parts }
