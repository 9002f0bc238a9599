use Rattle.std.proofs.Common.{arith, sym, ◌∙◌}
use Rattle.slh_audit.proofs.Finding.{head_not, not_some, turn_found, turn_next, turn_none}
use Rattle.slh_audit.specs.Evidence.{dispute_on, shows}
use Rattle.slh_core.specs.Parameters.{scheme_of}
use Rattle.slh_audit.proofs.dispute.Dispute.first_in_forest.Goals as goal

pub loop-tree-init : goal.loop-tree-init
loop-tree-init g c =
    let Z = scheme_of g.P.HashSuite.suite g.P.N.ArraySize.USIZE g.P.XmssSizes.H_PRIME g.P.HypertreeSizes.D g.P.ForsSizes.A g.P.ForsSizes.K in
    let D = dispute_on Z c.args.self.now in
    let test = shows D in
    turn_none test _

pub returns-then-is_some : goal.returns-then-is_some
returns-then-is_some g c =
    let Z = scheme_of g.P.HashSuite.suite g.P.N.ArraySize.USIZE g.P.XmssSizes.H_PRIME g.P.HypertreeSizes.D g.P.ForsSizes.A g.P.ForsSizes.K in
    let D = dispute_on Z c.args.self.now in
    let test = shows D in
    let found = turn_found test _ _ _ c.loop-tree.tree (omega (arith, c.loop-tree-test.true, c.K-count.ensures)) c.loop-tree.invariant (sym c.is_some.ensures ∙ c.if-is_some.true) c.first_in_fors_tree-found.ensures in
    found ∙ sym (head_not test c.fors_roots_show.result _ _ c.if-fors_roots_show.false c.fors_roots_show.ensures)

pub loop-tree-preserved : goal.loop-tree-preserved
loop-tree-preserved g c =
    let Z = scheme_of g.P.HashSuite.suite g.P.N.ArraySize.USIZE g.P.XmssSizes.H_PRIME g.P.HypertreeSizes.D g.P.ForsSizes.A g.P.ForsSizes.K in
    let D = dispute_on Z c.args.self.now in
    let test = shows D in
    turn_next test _ c.loop-tree.tree c.loop-tree.invariant (not_some test _ _ (sym c.is_some.ensures ∙ c.if-is_some.false) c.first_in_fors_tree-found.ensures)
