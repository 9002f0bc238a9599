use Rattle.std.proofs.Common.{arith}
use Rattle.std.proofs.lemmas.Grind.{common_steps}
use Rattle.hybrid_array.proofs.array.Array.try_from_fn.Goals as goal

pub returns-in-Ok : goal.returns-in-Ok
returns-in-Ok g c = record {
  len = grind (arith, common_steps);
  value = (c.try_answers_of.new.f, rw c.of.ensures c.in-Ok.ensures.value);
  caller = grind (arith, common_steps);
}

pub returns : goal.returns
returns g c = grind (arith, common_steps)
