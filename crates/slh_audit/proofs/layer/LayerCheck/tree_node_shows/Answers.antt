use Rattle.std.proofs.Common.{arith, refl, ◌+◌, ◌-◌, length}
use Rattle.std.proofs.lemmas.Grind.{common_steps}
use Rattle.slh_audit.proofs.Climbed.{tree_node_shown}
use Rattle.slh_audit.proofs.Nearby.{sibling_below}
use Rattle.slh_audit.proofs.Told.{rows_fit, sibling_room, up_below}
use Rattle.slh_audit.specs.Evidence.{dispute_on}
use Rattle.slh_core.specs.Parameters.{scheme_of}
use Rattle.slh_audit.proofs.layer.LayerCheck.tree_node_shows.Goals as goal

pub root_from_auth_path-below-requires : goal.root_from_auth_path-below-requires
root_from_auth_path-below-requires g c = record {
  few = grind (arith, common_steps);
  enough = rows_fit (c.args.height - 1) g.P.XmssSizes.H_PRIME g.P.N.ArraySize.USIZE (length c.layer_parts.result.1.now) (omega (arith, c.requires.high)) c.layer_parts.ensures.path_len;
}

pub part_of-beside-requires : goal.part_of-beside-requires
part_of-beside-requires g c = record {
  small = grind (arith, common_steps);
  fits = rows_fit (c.args.height - 1 + 1) g.P.XmssSizes.H_PRIME g.P.N.ArraySize.USIZE (length c.layer_parts.result.1.now) (omega (arith, c.requires.high, c.requires.low)) c.layer_parts.ensures.path_len;
}

pub root_from_auth_path-node-requires : goal.root_from_auth_path-node-requires
root_from_auth_path-node-requires g c = record {
  few = grind (arith, common_steps);
  enough = rows_fit c.args.height g.P.XmssSizes.H_PRIME g.P.N.ArraySize.USIZE (length c.layer_parts.result.1.now) c.requires.high c.layer_parts.ensures.path_len;
}

pub sibling-requires : goal.sibling-requires
sibling-requires g c =
    sibling_room c.args.self.now.adrs.key_pair_adrs (c.args.height - 1) g.P.XmssSizes.H_PRIME c.tree_sizes.ensures.height_high (omega (arith, c.requires.high)) c.args.self.now.below

pub xmss_node-own_below-requires : goal.xmss_node-own_below-requires
xmss_node-own_below-requires g c = record {
  height = grind (arith, common_steps);
  node = up_below c.args.self.now.adrs.key_pair_adrs (c.args.height - 1) g.P.XmssSizes.H_PRIME (omega (arith, c.requires.high)) c.args.self.now.below;
}

pub xmss_node-own_beside-requires : goal.xmss_node-own_beside-requires
xmss_node-own_beside-requires g c = record {
  height = grind (arith, common_steps);
  node = rw c.sibling.ensures (sibling_below c.args.self.now.adrs.key_pair_adrs (c.args.height - 1) g.P.XmssSizes.H_PRIME (omega (arith, c.requires.high, c.requires.low)) c.args.self.now.below);
}

pub xmss_node-own_node-requires : goal.xmss_node-own_node-requires
xmss_node-own_node-requires g c = record {
  height = grind (arith, common_steps);
  node = up_below c.args.self.now.adrs.key_pair_adrs c.args.height g.P.XmssSizes.H_PRIME c.requires.high c.args.self.now.below;
}

pub returns : goal.returns
returns g c =
    let s = c.args.self.now in
    let tree = c.tree_adrs-at.ensures in
    tree_node_shown (dispute_on (scheme_of g.P.HashSuite.suite g.P.N.ArraySize.USIZE g.P.XmssSizes.H_PRIME g.P.HypertreeSizes.D g.P.ForsSizes.A g.P.ForsSizes.K) s.dispute.now) _ _ _ _ _ _ _ _ _ _ _ _ _ _ _ _ _ _ (g.met.P.HashSuite.lengths g.met.P.WotsSizes.valid_wots.n_high)
    (rw (← c.dispute.view_is) c.dispute.invariant.5) (rw (← c.dispute.view_is) refl) s.layer s.tree s.leaf s.part s.checked
    c.requires.low c.requires.high c.layer_parts.ensures.path_len c.layer_parts.ensures.chains c.layer_parts.ensures.path c.wots_pk_from_sig-leaf.ensures.value
    (rw tree at c.root_from_auth_path-below.ensures.value) c.xmss_node-own_below.ensures.value
    c.part_of-beside.ensures (rw c.sibling.ensures at c.xmss_node-own_beside.ensures.value)
    (rw tree at c.root_from_auth_path-node.ensures.value) c.xmss_node-own_node.ensures.value c.nodes_collide.ensures
