use Rattle.std.proofs.Common.{arith, below_more, ◌+◌, ◌*◌, ◌∙◌}
use Rattle.slh_merkle.proofs.Layers.{part_fits}
use Rattle.slh_merkle.proofs.climb_rows.pair_nodes.Goals as goal

pub part_of-node-requires-clause-small : goal.part_of-node-requires-clause-small
part_of-node-requires-clause-small g c = c.forest_sizes.ensures.n_high

pub part_of-node-requires-clause-fits : goal.part_of-node-requires-clause-fits
part_of-node-requires-clause-fits g c = part_fits c.loop-i.i g.P.ForsSizes.K g.P.N.ArraySize.USIZE _ (omega arith) c.requires.nodes

pub put_in_order-requires : goal.put_in_order-requires
put_in_order-requires g c = record {
  few = omega (arith, c.forest_sizes.ensures.trees_high);
  fits = part_fits c.loop-i.i g.P.ForsSizes.K (2 * g.P.N.ArraySize.USIZE) _ (omega arith) (omega (arith, c.requires.room));
}

pub sibling_in-beside-requires-clause-tree : goal.sibling_in-beside-requires-clause-tree
sibling_in-beside-requires-clause-tree g c = omega arith

pub sibling_in-beside-requires-clause-height : goal.sibling_in-beside-requires-clause-height
sibling_in-beside-requires-clause-height g c = c.requires.height

pub sibling_in-beside-requires-clause-whole : goal.sibling_in-beside-requires-clause-whole
sibling_in-beside-requires-clause-whole g c = c.requires.whole

pub loop-i-init : goal.loop-i-init
loop-i-init g c = record {
  left = λ k below. absurd (omega (arith, below));
  right = λ k below. absurd (omega (arith, below));
}

pub returns : goal.returns
returns g c = record {
  left = λ i low. c.loop-i.invariant.left i (omega (arith, low));
  right = λ i low. c.loop-i.invariant.right i (omega (arith, low));
}

pub loop-i-preserved : goal.loop-i-preserved
loop-i-preserved g c =
    let put = c.put_in_order.ensures in
    let so_far = c.loop-i.invariant in
    record {
      left = below_more _ _
          (λ k low. put.before (2 * k) (omega arith) ∙ so_far.left k low)
          (rw (c.part_of-node.ensures, c.sibling_in-beside.ensures) at put.left);
      right = below_more _ _
          (λ k low. put.before (2 * k + 1) (omega arith) ∙ so_far.right k low)
          (rw (c.part_of-node.ensures, c.sibling_in-beside.ensures) at put.right);
    }
