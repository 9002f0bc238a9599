use Rattle.std.proofs.Common.{arith, refl}
use Rattle.slh_core.proofs.Joins.{joined_more, whole_joined}
use Rattle.slh_core.proofs.suite.HashSuite.leaves_eight.Goals as goal

pub loop-k-preserved : goal.loop-k-preserved
loop-k-preserved g c = record {
  leaves = rw (c.put_part.ensures.front, c.loop-k.invariant.leaves, joined_more, c.as_slice.ensures.value, c.f-leaf.ensures.value, c.at_number-in-loop-k.ensures, c.prf_sk-secret.ensures.value, c.at_number.ensures, c.prf_adrs-secrets.ensures, c.new-forest.ensures) refl;
  cost = omega (arith, c.f-leaf.ensures.step, c.prf_sk-secret.ensures.step);
}

pub returns-clause-value : goal.returns-clause-value
returns-clause-value g c =
    whole_joined _ c.USIZE-n.result 8 c.loop-k.k c.loop-k.out (omega arith) (rw c.USIZE-n.ensures (omega (arith, c.requires.room))) c.loop-k.invariant.leaves
