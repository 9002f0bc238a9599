use Rattle.std.proofs.Common.{arith, length, refl}
use Rattle.slh_core.proofs.Joins.{joined_more, whole_joined}
use Rattle.slh_core.proofs.suite.HashSuite.prf_each.Goals as goal

pub loop-k-preserved : goal.loop-k-preserved
loop-k-preserved g c = record {
  secrets = rw (c.put_part.ensures.front, c.loop-k.invariant.secrets, joined_more, c.as_slice.ensures.value, c.prf_sk-secret.ensures.value, c.at_number.ensures) refl;
  cost = omega (arith, c.prf_sk-secret.ensures.step);
}

pub returns-clause-value : goal.returns-clause-value
returns-clause-value g c =
    whole_joined _ c.USIZE-n.result (length c.args.numbers.now) c.loop-k.k c.loop-k.out (omega arith) (rw c.USIZE-n.ensures (omega (arith, c.requires))) c.loop-k.invariant.secrets
