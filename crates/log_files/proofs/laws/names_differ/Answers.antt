use Rattle.log_files.proofs.TileNames.{bundles_differ, heads_differ, kinds_differ, tiles_differ}
use Rattle.log_files.proofs.laws.names_differ.Goals as goal

pub returns-clause-tiles : goal.returns-clause-tiles
returns-clause-tiles c = tiles_differ

pub returns-clause-bundles : goal.returns-clause-bundles
returns-clause-bundles c = bundles_differ

pub returns-clause-kinds : goal.returns-clause-kinds
returns-clause-kinds c = kinds_differ

pub returns-clause-heads : goal.returns-clause-heads
returns-clause-heads c = heads_differ
