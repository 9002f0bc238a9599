use Rattle.slh_trees.proofs.uncounted.top_root.Given as goal

abbrev pub ghosts-top_root_on : goal.ghosts-top_root_on
ghosts-top_root_on g a = record { name = a.blank.name; parts = a.blank.parts }
