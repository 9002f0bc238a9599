use Rattle.std.proofs.Common.{of_calls, ◌≡◌, ◌+◌, length, arith}
use Rattle.std.proofs.lemmas.Grind.{common_steps}
use Rattle.hybrid_array.proofs.CallLemmas.{Answers-push}
use Rattle.hybrid_array.proofs.from_fn.answers_of.Goals as goal

pub loop-i-preserved : goal.loop-i-preserved
loop-i-preserved g c =
    let at : 0 + length c.loop-i.answers.items ≡ c.loop-i.i = omega arith in
    record {
      callable = search of_calls;
      room = rw c.push_reserved.ensures.capacity c.loop-i.invariant.room;
      count = rw c.push_reserved.ensures.items (grind (arith, common_steps));
      made = rw c.push_reserved.ensures.items (Answers-push _ 0 _ _ _ _ _ c.loop-i.invariant.made (rw at (search of_calls)));
    }

pub returns-in_err-answers : goal.returns-in_err-answers
returns-in_err-answers g c = grind (arith, common_steps)

pub returns : goal.returns
returns g c = grind (arith, common_steps)
