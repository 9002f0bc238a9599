use Rattle.std.proofs.Common.{arith}
use Rattle.std.proofs.lemmas.Grind.{common_steps}
use Rattle.slh_bench.proofs.bench.write_message.Goals as goal

pub expand-requires : goal.expand-requires
expand-requires c = grind (arith, common_steps)
