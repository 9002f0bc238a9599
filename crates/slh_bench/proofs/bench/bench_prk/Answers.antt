use Rattle.std.proofs.Common.{arith}
use Rattle.std.proofs.lemmas.Grind.{common_steps}
use Rattle.slh_bench.proofs.bench.bench_prk.Goals as goal

pub extract-requires : goal.extract-requires
extract-requires c = grind (arith, common_steps)
