use Rattle.log_tiles.proofs.Reading.{read_back, read_only}
use Rattle.log_tiles.proofs.laws.bundles_are_read_back.Goals as goal

pub returns-clause-back : goal.returns-clause-back
returns-clause-back c = read_back

pub returns-clause-only : goal.returns-clause-only
returns-clause-only c = read_only
