use Rattle.slh_ring.proofs.ring.Ring.restore.Given as goal

abbrev pub ghosts-restore_on : goal.ghosts-restore_on
ghosts-restore_on g a = record { name = a.blank.name; parts = a.blank.parts }
