use Rattle.slh_trees.proofs.uncounted.check_root.Given as goal

abbrev pub ghosts-check_root_on : goal.ghosts-check_root_on
ghosts-check_root_on g a = record { name = a.blank.name; parts = a.blank.parts }
