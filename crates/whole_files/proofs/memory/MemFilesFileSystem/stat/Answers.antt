use Rattle.std.proofs.Common.{arith}
use Rattle.std.proofs.lemmas.Grind.{common_steps}
use Rattle.whole_files.proofs.memory.MemFilesFileSystem.stat.Goals as goal

pub returns-in_err-next : goal.returns-in_err-next
returns-in_err-next c = grind (arith, common_steps)

pub returns-in_default : goal.returns-in_default
returns-in_default c = grind (arith, common_steps)
