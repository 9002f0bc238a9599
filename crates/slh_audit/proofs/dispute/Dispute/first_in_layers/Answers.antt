use Rattle.std.proofs.Common.{arith, sym, ◌∙◌}
use Rattle.slh_audit.proofs.Finding.{not_some, turn_found, turn_next}
use Rattle.slh_audit.proofs.Climbed.{layers_begin}
use Rattle.slh_audit.specs.Evidence.{dispute_on, shows}
use Rattle.slh_core.specs.Parameters.{scheme_of}
use Rattle.slh_audit.proofs.dispute.Dispute.first_in_layers.Goals as goal

pub loop-down-init : goal.loop-down-init
loop-down-init g c =
    let Z = scheme_of g.P.HashSuite.suite g.P.N.ArraySize.USIZE g.P.XmssSizes.H_PRIME g.P.HypertreeSizes.D g.P.ForsSizes.A g.P.ForsSizes.K in
    let D = dispute_on Z c.args.self.now in
    let law = g.met.P.HashSuite.lengths g.met.P.WotsSizes.valid_wots.n_high in
    layers_begin D c.D-count.result c.args.lowest c.D-count.ensures law c.requires.own c.requires.lowest

pub returns-then-is_some : goal.returns-then-is_some
returns-then-is_some g c =
    let Z = scheme_of g.P.HashSuite.suite g.P.N.ArraySize.USIZE g.P.XmssSizes.H_PRIME g.P.HypertreeSizes.D g.P.ForsSizes.A g.P.ForsSizes.K in
    let D = dispute_on Z c.args.self.now in
    let test = shows D in
    turn_found test _ _ _ c.loop-down.down (omega (arith, c.loop-down-test.true, c.D-count.ensures)) c.loop-down.invariant (sym c.is_some.ensures ∙ c.if-is_some.true) (rw c.D-count.ensures at c.first_in_layer-found.ensures)

pub loop-down-preserved : goal.loop-down-preserved
loop-down-preserved g c =
    let Z = scheme_of g.P.HashSuite.suite g.P.N.ArraySize.USIZE g.P.XmssSizes.H_PRIME g.P.HypertreeSizes.D g.P.ForsSizes.A g.P.ForsSizes.K in
    let D = dispute_on Z c.args.self.now in
    let test = shows D in
    turn_next test _ c.loop-down.down c.loop-down.invariant (not_some test _ _ (sym c.is_some.ensures ∙ c.if-is_some.false) (rw c.D-count.ensures at c.first_in_layer-found.ensures))
