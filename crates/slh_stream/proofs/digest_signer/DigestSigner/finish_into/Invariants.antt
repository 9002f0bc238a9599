use Rattle.slh_stream.proofs.digest_signer.DigestSigner.finish_into.Given as goal

abbrev pub ghosts-finish_into_on : goal.ghosts-finish_into_on
ghosts-finish_into_on g a = record { name = a.blank.name; parts = a.blank.parts }
