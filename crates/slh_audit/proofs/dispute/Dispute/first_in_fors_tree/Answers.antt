use Rattle.std.proofs.Common.{arith, refl}
use Rattle.slh_audit.proofs.Finding.{one_found, one_not, turn_found, turn_next, turn_none}
use Rattle.slh_audit.specs.Evidence.{dispute_on, shows}
use Rattle.slh_core.specs.Parameters.{scheme_of}
use Rattle.slh_audit.proofs.dispute.Dispute.first_in_fors_tree.Goals as goal

pub loop-down-init : goal.loop-down-init
loop-down-init g c =
    let Z = scheme_of g.P.HashSuite.suite g.P.N.ArraySize.USIZE g.P.XmssSizes.H_PRIME g.P.HypertreeSizes.D g.P.ForsSizes.A g.P.ForsSizes.K in
    let D = dispute_on Z c.args.self.now in
    let test = shows D in
    turn_none test _

pub returns-then-any_fors_node_shows : goal.returns-then-any_fors_node_shows
returns-then-any_fors_node_shows g c =
    let Z = scheme_of g.P.HashSuite.suite g.P.N.ArraySize.USIZE g.P.XmssSizes.H_PRIME g.P.HypertreeSizes.D g.P.ForsSizes.A g.P.ForsSizes.K in
    let D = dispute_on Z c.args.self.now in
    let test = shows D in
    let found = one_found test c.any_fors_node_shows.result _ c.if-any_fors_node_shows.true (rw c.A-top.ensures at c.any_fors_node_shows.ensures) in
    rw c.A-top.ensures (turn_found test _ _ _ c.loop-down.down (omega (arith, c.loop-down-test.true, c.A-top.ensures)) c.loop-down.invariant refl found)

pub loop-down-preserved : goal.loop-down-preserved
loop-down-preserved g c =
    let Z = scheme_of g.P.HashSuite.suite g.P.N.ArraySize.USIZE g.P.XmssSizes.H_PRIME g.P.HypertreeSizes.D g.P.ForsSizes.A g.P.ForsSizes.K in
    let D = dispute_on Z c.args.self.now in
    let test = shows D in
    turn_next test _ c.loop-down.down c.loop-down.invariant (one_not test c.any_fors_node_shows.result _ c.if-any_fors_node_shows.false (rw c.A-top.ensures at c.any_fors_node_shows.ensures))
