use Rattle.slh_audit.proofs.calls.audit_for_digest.Given as goal

abbrev pub ghosts-audit_by_digest : goal.ghosts-audit_by_digest
ghosts-audit_by_digest g a = record { name = a.blank.name; parts = a.blank.parts }
