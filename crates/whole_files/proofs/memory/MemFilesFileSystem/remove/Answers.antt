use Rattle.std.proofs.Common.{arith}
use Rattle.std.proofs.lemmas.Grind.{common_steps}
use Rattle.whole_files.proofs.memory.MemFilesFileSystem.remove.Goals as goal

pub returns-in_err-next : goal.returns-in_err-next
returns-in_err-next c = grind (arith, common_steps)

pub returns-then-is_none : goal.returns-then-is_none
returns-then-is_none c = grind (arith, common_steps)

pub returns-in-Err : goal.returns-in-Err
returns-in-Err c = grind (arith, common_steps)
