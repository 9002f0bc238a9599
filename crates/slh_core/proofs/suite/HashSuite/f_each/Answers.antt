use Rattle.std.proofs.Common.{◌+◌, ◌*◌, ◌++◌, ◌∙◌, List, ℕ, arith, length, refl, slice_index}
use Rattle.slh_core.specs.Bytes.{joined, part}
use Rattle.slh_core.proofs.Joins.{drop_later, joined_more, part_later, whole_joined}
use Rattle.slh_core.proofs.suite.HashSuite.f_each.Goals as goal

pub loop-k-preserved : goal.loop-k-preserved
loop-k-preserved g c =
    let K = g.Self.HashSuite.keyed_suite c.args.keyed.now in
    let n = g.Self.N.ArraySize.USIZE in
    let m = c.USIZE-n.result in
    let old = c.args.values.now in
    let next : ℕ → List ℕ = λ i. K.suite.f K.seed (g.A.RowAddress.numbered c.args.adrs.now (slice_index c.args.numbers.now i)) (part n old i) in
    let k = c.loop-k.k in
    let i = c.loop-k.invariant in
    record {
      hashes = rw (c.put_part.ensures.front, i.hashes, joined_more, c.as_slice.ensures.value, c.f-next.ensures.value, c.at_number.ensures, c.part_of-value.ensures, part_later n c.loop-k.values old k (rw c.USIZE-n.ensures at i.rest))
          (refl {a = joined next k ++ next k});
      rest = c.put_part.ensures.rest ∙ drop_later c.loop-k.values old (k * m) ((k + 1) * m) (omega arith) i.rest;
      cost = omega (arith, c.f-next.ensures.step);
    }

pub returns-clause-value : goal.returns-clause-value
returns-clause-value g c =
    whole_joined _ c.USIZE-n.result (length c.args.numbers.now) c.loop-k.k c.loop-k.values (omega arith) (rw c.USIZE-n.ensures (omega (arith, c.requires.room))) c.loop-k.invariant.hashes
