use Rattle.slh_ring.proofs.derived.derive.Given as goal

abbrev pub ghosts-derive_on : goal.ghosts-derive_on
ghosts-derive_on g a = record { name = a.blank.name; parts = a.blank.parts }
