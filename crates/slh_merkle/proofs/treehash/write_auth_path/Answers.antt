use Rattle.std.proofs.Common.{◌≡◌, ◌∙◌, ◌*◌, arith, length, refl}
use Rattle.slh_core.proofs.Joins.{joined_more}
use Rattle.slh_merkle.proofs.CostSteps.{auth_path_cost-more}
use Rattle.slh_merkle.proofs.Layers.{part_fits}
use Rattle.slh_merkle.proofs.Powers.{sibling_below_of}
use Rattle.slh_merkle.proofs.Rows.{none_joined, whole_front}
use Rattle.slh_merkle.specs.Merkle.{merkle_auth_path}
use Rattle.slh_merkle.proofs.treehash.write_auth_path.Goals as goal

pub loop-z-preserved : goal.loop-z-preserved
loop-z-preserved g c = record {
  values = rw (c.put_part.ensures.front, c.loop-z.invariant.values, joined_more, c.as_slice.ensures.value, c.treehash-value.ensures.value, c.sibling.ensures) refl;
  cost = omega (arith, auth_path_cost-more g.A.Leaves.leaf_cost c.loop-z.z);
}

pub put_part-requires : goal.put_part-requires
put_part-requires g c = record {
  fits = part_fits c.loop-z.z c.args.height c.USIZE-n.result _ c.loop-z-test.true (rw c.USIZE-n.ensures (c.loop-z.auto.out ∙ c.requires.room));
  len = omega (arith, c.as_slice.ensures.len, c.USIZE-n.ensures);
}

pub treehash-value-requires-clause-node : goal.treehash-value-requires-clause-node
treehash-value-requires-clause-node g c =
    rw c.sibling.ensures
    (sibling_below_of c.args.y c.loop-z.z g.A.Leaves.height g.A.Leaves.trees (omega arith) c.requires.leaf)

pub loop-z-init : goal.loop-z-init
loop-z-init g c = record {
  values = none_joined _ _ _;
  cost = omega arith;
}

pub returns : goal.returns
unfolding merkle_auth_path
returns g c =
    let n = c.USIZE-n.result in
    let last : c.loop-z.z ≡ c.args.height = omega arith in
    let whole : length c.loop-z.out ≡ c.args.height * n = rw c.USIZE-n.ensures (c.loop-z.auto.out ∙ c.requires.room) in
    record {
      value = rw last at (whole_front n c.args.height c.loop-z.z c.loop-z.out _ last whole c.loop-z.invariant.values);
      cost = rw last at c.loop-z.invariant.cost;
    }
