use Rattle.std.proofs.Common.{arith, rules}
use Rattle.std.proofs.lemmas.Grind.{common_steps}
use Rattle.hybrid_array.specs.Gives.GivesOther.{fewer, more}
use Rattle.hybrid_array.proofs.CallLemmas.{Yields-push}
use Rattle.hybrid_array.proofs.iter.items_of.Goals as goal

pub returns-in-None : goal.returns-in-None
returns-in-None g c = record {
  len = grind (arith, common_steps);
  value = grind (arith, common_steps);
  count = fewer c.loop-i.items.items (omega arith) (record {
    rest = c.loop-i.it;
    given = c.loop-i.invariant.given;
    none = c.in-None.ensures.gives;
  });
  unasked = grind (arith, common_steps);
}

pub loop-i-preserved : goal.loop-i-preserved
loop-i-preserved g c = record {
  can = c.in-Some.ensures.keeps;
  room = rw c.push_reserved.ensures.capacity c.loop-i.invariant.room;
  count = rw c.push_reserved.ensures.items (grind (arith, common_steps));
  given = rw c.push_reserved.ensures.items (Yields-push g.I.Iterator.next_gives c.args.it.now c.loop-i.items.items c.loop-i.it c.in-Some.item c.next_of.new.it c.loop-i.invariant.given c.in-Some.ensures.gives);
}

pub returns-in-Some-next_of : goal.returns-in-Some-next_of
returns-in-Some-next_of g c = record {
  len = grind (arith, common_steps);
  value = grind (arith, common_steps);
  count = more _ c.in-Some-next_of.field-0 _ c.loop-i.invariant.given (omega arith) (search rules);
  unasked = grind (arith, common_steps);
}

pub returns-in-Err : goal.returns-in-Err
returns-in-Err g c = grind (arith, common_steps)

pub returns-in-None-next_of : goal.returns-in-None-next_of
returns-in-None-next_of g c = grind (arith, common_steps)
