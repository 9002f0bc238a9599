use Rattle.std.proofs.Common.{of_calls, rules, arith, append_assoc, length-append, ap, length, refl}
use Rattle.std.proofs.lemmas.Grind.{common_steps}
use Rattle.hybrid_array.proofs.CallLemmas.{Maps-push}
use Rattle.std.proofs.lemmas.Result.{IfOk-from_err}
use Rattle.hybrid_array.proofs.from_fn.maps_of.Goals as goal

pub loop-x-preserved : goal.loop-x-preserved
loop-x-preserved g c =
    record {
      callable = search of_calls;
      room = rw c.push_reserved.ensures.capacity c.loop-x.invariant.room;
      count = rw c.push_reserved.ensures.items (grind (arith, common_steps));
      whole = rw (append_assoc, ← c.in-Some.ensures.steps.0) c.loop-x.invariant.whole;
      made = rw c.push_reserved.ensures.items (Maps-push _ _ _ _ _ _ _ _ c.loop-x.invariant.made (search of_calls));
    }

pub returns-in_err-items : goal.returns-in_err-items
returns-in_err-items g c = record {
  len = IfOk-from_err _ _ c.from_residual.ensures.0;
  value = IfOk-from_err _ _ c.from_residual.ensures.0;
  uncalled = grind (arith, common_steps);
}

pub loop-x-init : goal.loop-x-init
loop-x-init g c = record {
  callable = search of_calls;
  room = grind (arith, common_steps);
  count = rw c.in_ok-items.ensures.items refl;
  whole = search rules;
  made = rw c.in_ok-items.ensures.items refl;
}

pub push_reserved-requires : goal.push_reserved-requires
push_reserved-requires g c =
    let whole = rw c.in-Some.ensures.steps.0 at c.loop-x.invariant.whole in
    omega (arith, simp length-append at (ap length whole))

pub returns : goal.returns
returns g c = grind (arith, common_steps)
