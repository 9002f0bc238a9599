use Rattle.std.proofs.Common.{take}
use Rattle.slh_log_commands.specs.Writing.{AreNamesOf}
use Rattle.slh_log_commands.proofs.writing.all_names.Given as goal

abbrev pub invariant-loop-file : goal.invariant-loop-file
invariant-loop-file l = AreNamesOf l.folder.path.now (take l.file-index l.log_files) l.names.items
