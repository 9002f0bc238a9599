use Rattle.log_tiles.proofs.proving.prove_presence.Given as goal

abbrev pub ghosts-path_of : goal.ghosts-path_of
ghosts-path_of g a = record { digest = g.S.TileSource.digest a.source.now }
