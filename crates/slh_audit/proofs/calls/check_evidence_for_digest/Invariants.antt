use Rattle.slh_audit.proofs.calls.check_evidence_for_digest.Given as goal

abbrev pub ghosts-check_by_digest : goal.ghosts-check_by_digest
ghosts-check_by_digest g a = record { name = a.blank.name; parts = a.blank.parts }
