use Rattle.std.proofs.Common.{◌≤◌, ◌+◌, ◌*◌, ◌∙◌, [], ap, arith, length, slice_index_or, sym, take}
use Rattle.slh_hash.proofs.Grouped.{group_within, groups_done}
use Rattle.slh_hash.proofs.rows_256.put_hashes.Goals as goal

pub put_part-requires-clause-fits : goal.put_part-requires-clause-fits
put_part-requires-clause-fits g c =
    group_within g.N.ArraySize.USIZE c.USIZE-n.result (c.loop-k.k + 1) c.args.count (length c.loop-k.out) c.USIZE-n.ensures (omega (arith, c.loop-k-test.true)) (c.loop-k.auto.out ∙ c.requires.room)

pub returns : goal.returns
returns g c =
    let count = c.args.count in
    let low : c.loop-k.k ≤ count = omega (arith, c.loop-k.auto.k-end) in
    record {
      value = groups_done (λ k. take g.N.ArraySize.USIZE (slice_index_or c.args.digests.now k [])) c.USIZE-n.result c.loop-k.k count c.loop-k.out c.loop-k.invariant.hashes low c.loop-k-test.false
          (c.loop-k.auto.out ∙ c.requires.room ∙ ap (λ q. count * q) (sym c.USIZE-n.ensures));
      step = omega (arith, low, c.loop-k-test.false, c.loop-k.invariant.cost);
    }
