use Rattle.std.proofs.Common.{arith, refl}
use Rattle.std.proofs.lemmas.Grind.{common_steps}
use Rattle.slh_audit.proofs.Climbed.{leaf_shown}
use Rattle.slh_audit.specs.Evidence.{dispute_on}
use Rattle.slh_core.proofs.DigitSteps.{wots_digits_below}
use Rattle.slh_core.specs.Parameters.{scheme_of}
use Rattle.slh_audit.proofs.layer.LayerCheck.leaf_shows.Goals as goal

pub finish_each-requires : goal.finish_each-requires
finish_each-requires g c = record {
  small = grind (arith, common_steps);
  count = grind (arith, common_steps);
  below = rw (c.WOTS_SIG_LEN-len.ensures, c.tree_sizes.ensures.signature_len, c.message_digits-all.ensures) (λ k below. wots_digits_below _ _ k);
  whole = grind (arith, common_steps);
  room = grind (arith, common_steps);
}

pub returns : goal.returns
returns g c =
    let s = c.args.self.now in
    leaf_shown (dispute_on (scheme_of g.P.HashSuite.suite g.P.N.ArraySize.USIZE g.P.XmssSizes.H_PRIME g.P.HypertreeSizes.D g.P.ForsSizes.A g.P.ForsSizes.K) s.dispute.now) _ _ _ _ _ _ _ _ _ _ _ _ _
    (rw (← c.dispute.view_is) c.dispute.invariant.5) (rw (← c.dispute.view_is) refl) s.layer s.tree s.leaf s.part s.checked
    c.layer_parts.ensures.chains (rw (c.WOTS_SIG_LEN-len.ensures, c.tree_sizes.ensures.signature_len) c.message_digits-all.ensures) c.finish_each.ensures.value
    c.own_ends.ensures (rw c.pk_adrs.ensures refl) c.hashes_collide.ensures
