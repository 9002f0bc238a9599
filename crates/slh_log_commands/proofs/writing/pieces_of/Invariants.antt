use Rattle.std.proofs.Common.{take}
use Rattle.slh_log_commands.specs.Writing.{ArePiecesOf}
use Rattle.slh_log_commands.proofs.writing.pieces_of.Given as goal

abbrev pub invariant-loop-i : goal.invariant-loop-i
invariant-loop-i l = ArePiecesOf (take l.i l.log_files) (take l.i l.names) l.pieces.items
