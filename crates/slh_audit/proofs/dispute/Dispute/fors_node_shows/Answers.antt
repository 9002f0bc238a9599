use Rattle.std.proofs.Common.{arith, refl, ◌∙◌, ◌+◌, ◌-◌, length}
use Rattle.std.proofs.lemmas.Grind.{common_steps}
use Rattle.slh_audit.proofs.Forested.{fors_node_shown_by}
use Rattle.slh_audit.proofs.Told.{rows_fit, up_below_of}
use Rattle.slh_audit.specs.Evidence.{dispute_on}
use Rattle.slh_core.specs.Parameters.{scheme_of}
use Rattle.slh_merkle.proofs.Powers.{sibling_below_of}
use Rattle.slh_audit.proofs.dispute.Dispute.fors_node_shows.Goals as goal

pub root_from_auth_path-below-requires : goal.root_from_auth_path-below-requires
root_from_auth_path-below-requires g c = record {
  few = grind (arith, common_steps);
  enough = rows_fit (c.args.height - 1) g.P.ForsSizes.A g.P.N.ArraySize.USIZE (length c.opened_parts.result.1.now) (omega (arith, c.requires.high)) c.opened_parts.ensures.path_len;
}

pub part_of-beside-requires : goal.part_of-beside-requires
part_of-beside-requires g c = record {
  small = grind (arith, common_steps);
  fits = rows_fit (c.args.height - 1 + 1) g.P.ForsSizes.A g.P.N.ArraySize.USIZE (length c.opened_parts.result.1.now) (omega (arith, c.requires.high, c.requires.low)) c.opened_parts.ensures.path_len;
}

pub root_from_auth_path-node-requires : goal.root_from_auth_path-node-requires
root_from_auth_path-node-requires g c = record {
  few = grind (arith, common_steps);
  enough = rows_fit c.args.height g.P.ForsSizes.A g.P.N.ArraySize.USIZE (length c.opened_parts.result.1.now) c.requires.high c.opened_parts.ensures.path_len;
}

pub fors_node-own_below-requires : goal.fors_node-own_below-requires
fors_node-own_below-requires g c = record {
  height = grind (arith, common_steps);
  node = up_below_of c.named_leaf-y.result (c.args.height - 1) g.P.ForsSizes.A g.P.ForsSizes.K (omega (arith, c.requires.high)) c.named_leaf-y.ensures.below;
}

pub fors_node-own_beside-requires : goal.fors_node-own_beside-requires
fors_node-own_beside-requires g c = record {
  height = grind (arith, common_steps);
  node = rw c.sibling.ensures (sibling_below_of c.named_leaf-y.result (c.args.height - 1) g.P.ForsSizes.A g.P.ForsSizes.K (omega (arith, c.requires.high, c.requires.low)) c.named_leaf-y.ensures.below);
}

pub fors_node-own_node-requires : goal.fors_node-own_node-requires
fors_node-own_node-requires g c = record {
  height = grind (arith, common_steps);
  node = up_below_of c.named_leaf-y.result c.args.height g.P.ForsSizes.A g.P.ForsSizes.K c.requires.high c.named_leaf-y.ensures.below;
}

pub returns : goal.returns
returns g c =
    let view = c.self.view_is in
    let forest = c.new-adrs.ensures in
    fors_node_shown_by (dispute_on (scheme_of g.P.HashSuite.suite g.P.N.ArraySize.USIZE g.P.XmssSizes.H_PRIME g.P.HypertreeSizes.D g.P.ForsSizes.A g.P.ForsSizes.K) c.args.self.now) _ _ _ _ _ _
    (rw (← view) c.self.invariant.5) (rw (← view) refl) (rw (← view) refl) (rw (← view) refl) (rw (← view) refl) (rw (← view) refl)
    c.args.tree c.args.height _ _ _ _ _ _ _ _ _ _ _ (g.met.P.HashSuite.lengths g.met.P.WotsSizes.valid_wots.n_high) c.requires.tree c.requires.low c.requires.high
    c.named_leaf-y.ensures.value c.opened_parts.ensures.path_len (c.exact-secret.ensures ∙ c.opened_parts.ensures.secret) c.opened_parts.ensures.path
    (rw (c.at_node.ensures.bytes, forest) at c.f-leaf.ensures.value)
    (rw forest at c.root_from_auth_path-below.ensures.value) (rw forest at c.fors_node-own_below.ensures.value)
    c.part_of-beside.ensures (rw (forest, c.sibling.ensures) at c.fors_node-own_beside.ensures.value)
    (rw forest at c.root_from_auth_path-node.ensures.value) (rw forest at c.fors_node-own_node.ensures.value) c.nodes_collide.ensures
