use Rattle.std.proofs.Common.{arith}
use Rattle.std.proofs.lemmas.Grind.{common_steps}
use Rattle.hybrid_array.proofs.array.Array.from_fn.Goals as goal

pub returns : goal.returns
returns g c = record {
  len = grind (arith, common_steps);
  value = (c.answers_of.new.f, rw c.of.ensures c.in_ok-answers_of.ensures.value);
}

pub returns-in_err-answers_of : goal.returns-in_err-answers_of
returns-in_err-answers_of g c = grind (arith, common_steps)
