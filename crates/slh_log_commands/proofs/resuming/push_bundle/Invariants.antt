use Rattle.log_files.specs.Names.{HaveFullNames}
use Rattle.slh_log_commands.proofs.resuming.push_bundle.Given as goal

abbrev pub invariant-loop-place : goal.invariant-loop-place
invariant-loop-place l = HaveFullNames l.log.tiles.count l.log.bundles.items l.log.full_tiles.items
