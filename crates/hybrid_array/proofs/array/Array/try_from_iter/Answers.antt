use Rattle.std.proofs.Common.{arith}
use Rattle.std.proofs.lemmas.Grind.{common_steps}
use Rattle.hybrid_array.proofs.CallLemmas.{OnCount-map}
use Rattle.hybrid_array.proofs.array.Array.try_from_iter.Goals as goal

pub returns : goal.returns
returns g c = record {
  len = grind (arith, common_steps);
  value = grind (arith, common_steps);
  count = let other = rw c.USIZE.ensures at c.in-Err.ensures.count in
      OnCount-map _ _ c.in-Err.error (λ o. (c.into_iter-it.result, c.items_of.new.it, c.into_iter-it.ensures.into_iter_gives, o)) other;
}

pub returns-in-Ok : goal.returns-in-Ok
returns-in-Ok g c = grind (arith, common_steps)
