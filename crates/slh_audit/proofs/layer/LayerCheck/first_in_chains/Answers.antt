use Rattle.std.proofs.Common.{arith, sym, ◌∙◌}
use Rattle.slh_audit.proofs.Finding.{not_some, turn_found, turn_next, turn_none}
use Rattle.slh_audit.specs.Evidence.{dispute_on, shows}
use Rattle.slh_core.specs.Parameters.{scheme_of}
use Rattle.slh_audit.proofs.layer.LayerCheck.first_in_chains.Goals as goal

pub loop-chain-init : goal.loop-chain-init
loop-chain-init g c =
    let Z = scheme_of g.P.HashSuite.suite g.P.N.ArraySize.USIZE g.P.XmssSizes.H_PRIME g.P.HypertreeSizes.D g.P.ForsSizes.A g.P.ForsSizes.K in
    let D = dispute_on Z c.args.self.now.dispute.now in
    let test = shows D in
    turn_none test _

pub returns-then-is_some : goal.returns-then-is_some
returns-then-is_some g c =
    let Z = scheme_of g.P.HashSuite.suite g.P.N.ArraySize.USIZE g.P.XmssSizes.H_PRIME g.P.HypertreeSizes.D g.P.ForsSizes.A g.P.ForsSizes.K in
    let D = dispute_on Z c.args.self.now.dispute.now in
    let test = shows D in
    turn_found test _ _ _ c.loop-chain.chain (omega (arith, c.loop-chain-test.true, c.WOTS_SIG_LEN-len.ensures, c.layer_sizes.ensures.signature_len)) c.loop-chain.invariant (sym c.is_some.ensures ∙ c.if-is_some.true) c.first_in_chain-found.ensures

pub loop-chain-preserved : goal.loop-chain-preserved
loop-chain-preserved g c =
    let Z = scheme_of g.P.HashSuite.suite g.P.N.ArraySize.USIZE g.P.XmssSizes.H_PRIME g.P.HypertreeSizes.D g.P.ForsSizes.A g.P.ForsSizes.K in
    let D = dispute_on Z c.args.self.now.dispute.now in
    let test = shows D in
    turn_next test _ c.loop-chain.chain c.loop-chain.invariant (not_some test _ _ (sym c.is_some.ensures ∙ c.if-is_some.false) c.first_in_chain-found.ensures)
