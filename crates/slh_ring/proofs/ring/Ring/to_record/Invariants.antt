use Rattle.slh_ring.proofs.ring.Ring.to_record.Given as goal

abbrev pub ghosts-record_on : goal.ghosts-record_on
ghosts-record_on g a = record { name = a.blank.name; parts = a.blank.parts }
