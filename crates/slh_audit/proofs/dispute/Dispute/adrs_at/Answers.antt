use Rattle.std.proofs.Common.{refl}
use Rattle.slh_merkle.proofs.Layers.{tree_at-zero, tree_at-more, leaf_at-more}
use Rattle.slh_audit.proofs.dispute.Dispute.adrs_at.Goals as goal

pub loop-init : goal.loop-init
loop-init g c = rw (← c.self.view_is) record { tree = tree_at-zero _ _; leaf = refl; below = c.self.invariant.4 }

pub loop-preserved : goal.loop-preserved
loop-preserved g c =
    let hp = g.P.XmssSizes.H_PRIME in
    let i = c.loop.invariant in
    record {
      tree = rw (c.next_place.ensures.tree, c.H_PRIME-height.ensures, i.tree) (tree_at-more _ _ _);
      leaf = rw (c.next_place.ensures.leaf, c.H_PRIME-height.ensures, i.tree) (leaf_at-more hp c.args.self.now.t c.args.self.now.l c.loop.counter);
      below = rw (← c.H_PRIME-height.ensures) c.next_place.ensures.below;
    }
