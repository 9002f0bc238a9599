use Rattle.std.proofs.Common.{arith, length, refl, ◌+◌, ◌*◌, ◌≤◌}
use Rattle.std.proofs.lemmas.Nat.{mul-le}
use Rattle.slh_core.proofs.Joins.{joined_more, whole_joined}
use Rattle.slh_core.proofs.suite.HashSuite.h_each.Goals as goal

pub put_part-requires-clause-fits : goal.put_part-requires-clause-fits
put_part-requires-clause-fits g c =
    let n = c.USIZE-n.result in
    let count = length c.args.numbers.now in
    let fits : (c.loop-k.k + 1) * n ≤ count * n = mul-le (c.loop-k.k + 1) n count n (omega arith) (omega arith) in
    omega (arith, fits, rw (← c.USIZE-n.ensures) at c.requires.room)

pub loop-k-preserved : goal.loop-k-preserved
loop-k-preserved g c = record {
  nodes = rw (c.put_part.ensures.front, c.loop-k.invariant.nodes, joined_more, c.as_slice.ensures.value, c.h-parent.ensures.value, c.at_number.ensures, c.part_of-left.ensures, c.part_of-right.ensures) refl;
  cost = omega (arith, c.h-parent.ensures.step);
}

pub returns-clause-value : goal.returns-clause-value
returns-clause-value g c =
    whole_joined _ c.USIZE-n.result (length c.args.numbers.now) c.loop-k.k c.loop-k.out (omega arith) (rw c.USIZE-n.ensures (omega (arith, c.requires.room))) c.loop-k.invariant.nodes
