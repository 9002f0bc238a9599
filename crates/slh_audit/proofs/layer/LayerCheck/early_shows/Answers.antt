use Rattle.std.proofs.Common.{arith, refl, ◌+◌, length}
use Rattle.std.proofs.lemmas.Grind.{common_steps}
use Rattle.slh_audit.proofs.Disputed.{early_shown, not_early}
use Rattle.slh_audit.proofs.Told.{rows_fit}
use Rattle.slh_audit.specs.Evidence.{dispute_on}
use Rattle.slh_core.specs.Parameters.{scheme_of}
use Rattle.slh_audit.proofs.layer.LayerCheck.early_shows.Goals as goal

pub returns-then-digit-digit_of : goal.returns-then-digit-digit_of
returns-then-digit-digit_of g c =
    let s = c.args.self.now in
    not_early (dispute_on (scheme_of g.P.HashSuite.suite g.P.N.ArraySize.USIZE g.P.XmssSizes.H_PRIME g.P.HypertreeSizes.D g.P.ForsSizes.A g.P.ForsSizes.K) s.dispute.now) _ _ _ _ _ _ s.checked c.requires.own c.digit_of-digit.ensures.value c.digit_of.ensures.value (omega (arith, c.if-digit-digit_of.true))

pub part_of-value-requires : goal.part_of-value-requires
part_of-value-requires g c = record {
  small = grind (arith, common_steps);
  fits = rows_fit (c.args.chain + 1) g.P.WotsSizes.WOTS_SIG_LEN g.P.N.ArraySize.USIZE (length c.layer_parts.result.0.now) (omega (arith, c.requires.chain)) c.layer_parts.ensures.chains_len;
}

pub returns : goal.returns
returns g c =
    let s = c.args.self.now in
    early_shown (dispute_on (scheme_of g.P.HashSuite.suite g.P.N.ArraySize.USIZE g.P.XmssSizes.H_PRIME g.P.HypertreeSizes.D g.P.ForsSizes.A g.P.ForsSizes.K) s.dispute.now) _ _ _ _ _ _ _ _ _ _ _ _ _ _ _
    (rw (← c.dispute.view_is) c.dispute.invariant.5) (rw (← c.dispute.view_is) refl) s.layer s.tree s.leaf s.part s.checked c.requires.own
    (omega (arith, c.requires.chain, c.tree_sizes.ensures.signature_len)) c.digit_of-digit.ensures.value c.digit_of.ensures.value (omega (arith, c.if-digit-digit_of.false))
    c.layer_parts.ensures.chains c.part_of-value.ensures c.own_chain-own_value.ensures.value c.same_value.ensures
