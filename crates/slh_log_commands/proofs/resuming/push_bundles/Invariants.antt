use Rattle.log_files.specs.Names.{HaveFullNames}
use Rattle.slh_log_commands.proofs.resuming.push_bundles.Given as goal

abbrev pub invariant-loop-index : goal.invariant-loop-index
invariant-loop-index l = HaveFullNames l.log.tiles.count l.log.bundles.items l.log.full_tiles.items
