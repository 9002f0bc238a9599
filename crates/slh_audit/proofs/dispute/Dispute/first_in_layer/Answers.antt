use Rattle.std.proofs.Common.{sym, ◌∙◌}
use Rattle.slh_audit.proofs.Climbed.{layer_by_chains, layer_by_leaf, layer_by_node}
use Rattle.slh_core.specs.Parameters.{scheme_of}
use Rattle.slh_audit.proofs.dispute.Dispute.first_in_layer.Goals as goal

pub returns-then-is_some : goal.returns-then-is_some
returns-then-is_some g c =
    layer_by_node (scheme_of g.P.HashSuite.suite g.P.N.ArraySize.USIZE g.P.XmssSizes.H_PRIME g.P.HypertreeSizes.D g.P.ForsSizes.A g.P.ForsSizes.K) _ _ _ _ c.layer_check.ensures.dispute c.layer_check.ensures.layer _ c.first_tree_node-found.ensures (sym c.is_some.ensures ∙ c.if-is_some.true)

pub returns-then-leaf_shows : goal.returns-then-leaf_shows
returns-then-leaf_shows g c =
    layer_by_leaf (scheme_of g.P.HashSuite.suite g.P.N.ArraySize.USIZE g.P.XmssSizes.H_PRIME g.P.HypertreeSizes.D g.P.ForsSizes.A g.P.ForsSizes.K) _ _ _ _ c.layer_check.ensures.dispute c.layer_check.ensures.layer _ c.first_tree_node-found.ensures (sym c.is_some.ensures ∙ c.if-is_some.false)
    _ c.leaf_shows.ensures c.if-leaf_shows.true

pub returns : goal.returns
returns g c =
    layer_by_chains (scheme_of g.P.HashSuite.suite g.P.N.ArraySize.USIZE g.P.XmssSizes.H_PRIME g.P.HypertreeSizes.D g.P.ForsSizes.A g.P.ForsSizes.K) _ _ _ _ c.layer_check.ensures.dispute c.layer_check.ensures.layer _ c.first_tree_node-found.ensures (sym c.is_some.ensures ∙ c.if-is_some.false)
    _ c.leaf_shows.ensures c.if-leaf_shows.false _ c.first_in_chains.ensures
