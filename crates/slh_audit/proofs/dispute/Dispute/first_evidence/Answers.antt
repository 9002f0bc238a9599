use Rattle.std.proofs.Common.{sym, ◌∙◌}
use Rattle.slh_audit.proofs.Finding.{after_half, after_some}
use Rattle.slh_audit.specs.Evidence.{dispute_on, shows}
use Rattle.slh_core.specs.Parameters.{scheme_of}
use Rattle.slh_audit.proofs.dispute.Dispute.first_evidence.Goals as goal

pub returns-then-is_some : goal.returns-then-is_some
returns-then-is_some g c =
    let Z = scheme_of g.P.HashSuite.suite g.P.N.ArraySize.USIZE g.P.XmssSizes.H_PRIME g.P.HypertreeSizes.D g.P.ForsSizes.A g.P.ForsSizes.K in
    let D = dispute_on Z c.args.self.now in
    let test = shows D in
    after_some test _ _ _ (sym c.is_some.ensures ∙ c.if-is_some.true) c.first_in_layers-found.ensures

pub returns : goal.returns
returns g c =
    let Z = scheme_of g.P.HashSuite.suite g.P.N.ArraySize.USIZE g.P.XmssSizes.H_PRIME g.P.HypertreeSizes.D g.P.ForsSizes.A g.P.ForsSizes.K in
    let D = dispute_on Z c.args.self.now in
    let test = shows D in
    after_half test _ _ _ _ (sym c.is_some.ensures ∙ c.if-is_some.false) c.first_in_layers-found.ensures c.first_in_forest.ensures
