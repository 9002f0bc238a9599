use Rattle.std.proofs.Common.{arith, refl, ◌+◌, length}
use Rattle.std.proofs.lemmas.Grind.{common_steps}
use Rattle.slh_audit.proofs.Disputed.{chain_step_shown, step_after, step_before}
use Rattle.slh_audit.proofs.Told.{rows_fit}
use Rattle.slh_audit.specs.Evidence.{dispute_on}
use Rattle.slh_core.specs.Parameters.{scheme_of}
use Rattle.slh_audit.proofs.layer.LayerCheck.chain_step_shows.Goals as goal

pub returns-then-step-digit : goal.returns-then-step-digit
returns-then-step-digit g c =
    let s = c.args.self.now in
    step_before (dispute_on (scheme_of g.P.HashSuite.suite g.P.N.ArraySize.USIZE g.P.XmssSizes.H_PRIME g.P.HypertreeSizes.D g.P.ForsSizes.A g.P.ForsSizes.K) s.dispute.now) _ _ _ _ _ s.checked c.digit_of-digit.ensures.value (omega (arith, c.if-step-digit.true))

pub returns-then-step-gt14 : goal.returns-then-step-gt14
returns-then-step-gt14 g c =
    step_after (dispute_on (scheme_of g.P.HashSuite.suite g.P.N.ArraySize.USIZE g.P.XmssSizes.H_PRIME g.P.HypertreeSizes.D g.P.ForsSizes.A g.P.ForsSizes.K) c.args.self.now.dispute.now) _ _ _ (omega (arith, c.if-step-gt14.true))

pub part_of-value-requires : goal.part_of-value-requires
part_of-value-requires g c = record {
  small = grind (arith, common_steps);
  fits = rows_fit (c.args.chain + 1) g.P.WotsSizes.WOTS_SIG_LEN g.P.N.ArraySize.USIZE (length c.layer_parts.result.0.now) (omega (arith, c.requires)) c.layer_parts.ensures.chains_len;
}

pub returns : goal.returns
returns g c =
    let s = c.args.self.now in
    let chain_at = c.at_chain-at.ensures in
    chain_step_shown (dispute_on (scheme_of g.P.HashSuite.suite g.P.N.ArraySize.USIZE g.P.XmssSizes.H_PRIME g.P.HypertreeSizes.D g.P.ForsSizes.A g.P.ForsSizes.K) s.dispute.now) _ _ _ _ _ _ _ _ _ _ _ _ _ _ _ _ _
    (rw (← c.dispute.view_is) c.dispute.invariant.5) (rw (← c.dispute.view_is) refl) s.layer s.tree s.leaf s.part s.checked
    (omega (arith, c.requires, c.tree_sizes.ensures.signature_len)) c.digit_of-digit.ensures.value (omega (arith, c.if-step-digit.false)) (omega (arith, c.if-step-gt14.false))
    c.layer_parts.ensures.chains c.part_of-value.ensures (rw chain_at at c.wots_chain-before.ensures.value) c.own_chain-own_before.ensures.value
    (rw chain_at at c.wots_chain-after.ensures.value) c.own_chain-own_after.ensures.value c.values_collide.ensures
