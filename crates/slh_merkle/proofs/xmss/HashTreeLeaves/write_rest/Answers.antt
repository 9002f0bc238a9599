use Rattle.std.proofs.Common.{◌≡◌, ◌∙◌, ◌*◌, arith, length, refl}
use Rattle.slh_core.specs.Costs.{wots_pk_cost}
use Rattle.slh_core.proofs.Joins.{joined_more}
use Rattle.slh_merkle.proofs.CostSteps.{one_more}
use Rattle.slh_merkle.proofs.Layers.{part_fits}
use Rattle.slh_merkle.proofs.Rows.{none_joined, whole_front}
use Rattle.slh_merkle.proofs.xmss.HashTreeLeaves.write_rest.Goals as goal

pub put_part-requires : goal.put_part-requires
put_part-requires g c = record {
  fits = part_fits c.loop-k.k c.args.count c.USIZE-n.result _ c.loop-k-test.true (rw c.USIZE-n.ensures (c.loop-k.auto.out ∙ c.requires.room));
  len = omega (arith, c.as_slice.ensures.len, c.USIZE-n.ensures);
}

pub loop-k-init : goal.loop-k-init
loop-k-init g c = record {
  leaves = none_joined _ _ _;
  cost = omega arith;
}

pub loop-k-preserved : goal.loop-k-preserved
loop-k-preserved g c = record {
  leaves = rw (c.put_part.ensures.front, c.loop-k.invariant.leaves, joined_more, c.as_slice.ensures.value, c.wots_pk_gen-leaf.ensures.value, c.key_pair_of-at.ensures) refl;
  cost = omega (arith, one_more c.loop-k.k (wots_pk_cost g.P.WotsSizes.WOTS_SIG_LEN), c.loop-k.invariant.cost, c.wots_pk_gen-leaf.ensures.cost);
}

pub returns : goal.returns
returns g c =
    let n = c.USIZE-n.result in
    let last : c.loop-k.k ≡ c.args.count = omega arith in
    let whole : length c.loop-k.out ≡ c.args.count * n = rw c.USIZE-n.ensures (c.loop-k.auto.out ∙ c.requires.room) in
    record {
      leaves = rw last at (whole_front n c.args.count c.loop-k.k c.loop-k.out _ last whole c.loop-k.invariant.leaves);
      cost = rw last at c.loop-k.invariant.cost;
    }
