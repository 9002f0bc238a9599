use Rattle.std.proofs.Common.{◌≡◌, arith, refl, sym, ◌∙◌}
use Rattle.slh_audit.proofs.Finding.{after_none, after_some, one_found, one_not, turn_found, turn_next, turn_none}
use Rattle.slh_audit.specs.Evidence.{dispute_on, shows}
use Rattle.slh_core.specs.Parameters.{scheme_of}
use Rattle.slh_audit.proofs.layer.LayerCheck.first_in_chain.Goals as goal

pub loop-down-init : goal.loop-down-init
loop-down-init g c =
    let Z = scheme_of g.P.HashSuite.suite g.P.N.ArraySize.USIZE g.P.XmssSizes.H_PRIME g.P.HypertreeSizes.D g.P.ForsSizes.A g.P.ForsSizes.K in
    let D = dispute_on Z c.args.self.now.dispute.now in
    let test = shows D in
    turn_none test _

pub returns-then-chain_step_shows : goal.returns-then-chain_step_shows
returns-then-chain_step_shows g c =
    let Z = scheme_of g.P.HashSuite.suite g.P.N.ArraySize.USIZE g.P.XmssSizes.H_PRIME g.P.HypertreeSizes.D g.P.ForsSizes.A g.P.ForsSizes.K in
    let D = dispute_on Z c.args.self.now.dispute.now in
    let test = shows D in
    let found = one_found test c.chain_step_shows.result _ c.if-chain_step_shows.true c.chain_step_shows.ensures in
    after_some test _ _ _ refl (turn_found test _ _ 15 c.loop-down.down (omega (arith, c.loop-down-test.true)) c.loop-down.invariant refl found)

pub loop-down-preserved : goal.loop-down-preserved
loop-down-preserved g c =
    let Z = scheme_of g.P.HashSuite.suite g.P.N.ArraySize.USIZE g.P.XmssSizes.H_PRIME g.P.HypertreeSizes.D g.P.ForsSizes.A g.P.ForsSizes.K in
    let D = dispute_on Z c.args.self.now.dispute.now in
    let test = shows D in
    turn_next test _ c.loop-down.down c.loop-down.invariant (one_not test c.chain_step_shows.result _ c.if-chain_step_shows.false c.chain_step_shows.ensures)

pub returns-then-early_shows : goal.returns-then-early_shows
returns-then-early_shows g c =
    let Z = scheme_of g.P.HashSuite.suite g.P.N.ArraySize.USIZE g.P.XmssSizes.H_PRIME g.P.HypertreeSizes.D g.P.ForsSizes.A g.P.ForsSizes.K in
    let D = dispute_on Z c.args.self.now.dispute.now in
    let test = shows D in
    let all : c.loop-down.down ≡ 15 = omega (arith, c.loop-down-test.false, c.loop-down.auto.down-end) in
    let none = rw all at c.loop-down.invariant in
    one_found test c.early_shows.result _ c.if-early_shows.true c.early_shows.ensures ∙ sym (after_none test _ _ none)

pub returns : goal.returns
returns g c =
    let Z = scheme_of g.P.HashSuite.suite g.P.N.ArraySize.USIZE g.P.XmssSizes.H_PRIME g.P.HypertreeSizes.D g.P.ForsSizes.A g.P.ForsSizes.K in
    let D = dispute_on Z c.args.self.now.dispute.now in
    let test = shows D in
    let all : c.loop-down.down ≡ 15 = omega (arith, c.loop-down-test.false, c.loop-down.auto.down-end) in
    let none = rw all at c.loop-down.invariant in
    sym (after_none test _ _ none ∙ one_not test c.early_shows.result _ c.if-early_shows.false c.early_shows.ensures)
