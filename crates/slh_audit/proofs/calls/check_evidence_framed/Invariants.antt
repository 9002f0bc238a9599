use Rattle.slh_audit.proofs.calls.check_evidence_framed.Given as goal

abbrev pub ghosts-check_slices : goal.ghosts-check_slices
ghosts-check_slices g a = record { name = a.blank.name; parts = a.blank.parts }
