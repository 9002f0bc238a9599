use Rattle.log_files.specs.Names.{HaveFullNames}
use Rattle.slh_log_commands.proofs.appending.push_lines.Given as goal

abbrev pub invariant-loop-line : goal.invariant-loop-line
invariant-loop-line l = HaveFullNames l.log.tiles.count l.log.bundles.items l.log.full_tiles.items
