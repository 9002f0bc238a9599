use Rattle.log_tiles.proofs.proving.prove_growth.Given as goal

abbrev pub ghosts-growth_of : goal.ghosts-growth_of
ghosts-growth_of g a = record { digest = g.S.TileSource.digest a.source.now }
