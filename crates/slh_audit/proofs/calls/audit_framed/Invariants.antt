use Rattle.slh_audit.proofs.calls.audit_framed.Given as goal

abbrev pub ghosts-audit_slices : goal.ghosts-audit_slices
ghosts-audit_slices g a = record { name = a.blank.name; parts = a.blank.parts }
