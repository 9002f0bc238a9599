use Rattle.slh_stream.proofs.verifier.MessageVerifier.finish.Given as goal

abbrev pub ghosts-finish_on : goal.ghosts-finish_on
ghosts-finish_on g a = record { name = a.blank.name; parts = a.blank.parts }
