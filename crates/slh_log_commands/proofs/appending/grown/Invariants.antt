use Rattle.log_files.specs.Names.{HaveFullNames}
use Rattle.slh_log_commands.proofs.appending.grown.Given as goal

abbrev pub invariant-loop-path : goal.invariant-loop-path
invariant-loop-path l = HaveFullNames l.log.tiles.count l.log.bundles.items l.log.full_tiles.items
