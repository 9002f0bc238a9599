use Rattle.std.proofs.Common.{arith}
use Rattle.std.proofs.lemmas.Grind.{common_steps}
use Rattle.ground_tests.proofs.digest_cores.SummingTailOutputCore.finalize_tail_core.Goals as goal

pub returns : goal.returns
returns c = grind (arith, common_steps)
