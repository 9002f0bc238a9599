use Rattle.std.proofs.Common.{arith}
use Rattle.std.proofs.lemmas.Grind.{common_steps}
use Rattle.whole_files.proofs.memory.MemFiles.put.Goals as goal

pub returns-in_err-bytes : goal.returns-in_err-bytes
returns-in_err-bytes c = grind (arith, common_steps)

pub returns-in_err-make : goal.returns-in_err-make
returns-in_err-make c = grind (arith, common_steps)

pub returns : goal.returns
returns c = grind (arith, common_steps)
