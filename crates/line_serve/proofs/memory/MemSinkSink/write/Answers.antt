use Rattle.std.proofs.Common.{arith}
use Rattle.std.proofs.lemmas.Grind.{common_steps}
use Rattle.line_serve.proofs.memory.MemSinkSink.write.Goals as goal

pub returns-in_err-next : goal.returns-in_err-next
returns-in_err-next c = grind (arith, common_steps)

pub returns-then-is_err : goal.returns-then-is_err
returns-then-is_err c = grind (arith, common_steps)

pub returns : goal.returns
returns c = grind (arith, common_steps)
