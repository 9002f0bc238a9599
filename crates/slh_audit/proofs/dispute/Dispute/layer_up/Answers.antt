use Rattle.std.proofs.Common.{refl, ◌∙◌}
use Rattle.slh_audit.proofs.Climbed.{layer_checked, layer_made, layer_root}
use Rattle.slh_audit.proofs.OwnLayers.{checked_up, own_layer_told}
use Rattle.slh_audit.specs.Evidence.{dispute_on}
use Rattle.slh_core.specs.Parameters.{scheme_of}
use Rattle.slh_audit.proofs.dispute.Dispute.layer_up.Goals as goal

pub returns-then-is_own : goal.returns-then-is_own
returns-then-is_own g c =
    let D = dispute_on (scheme_of g.P.HashSuite.suite g.P.N.ArraySize.USIZE g.P.XmssSizes.H_PRIME g.P.HypertreeSizes.D g.P.ForsSizes.A g.P.ForsSizes.K) c.args.self.now in
    let made = layer_made D _ _ _ _ (rw (← c.self.view_is) c.self.invariant.5) (rw (← c.self.view_is) refl) refl _ _ _ refl c.requires.own (rw c.adrs_at-adrs.ensures.value at c.xmss_sign_root-root.ensures.value) in
    let is_own = own_layer_told D c.args.layer c.both_same-is_own.result _ _ _ _
    (c.as_slice.ensures.value ∙ c.requires.checked) (c.as_slice-2.ensures.value ∙ c.requires.own) c.layer_sig-sig.ensures.value made c.both_same-is_own.ensures in
    let root = layer_root D _ _ _ _ (rw (← c.self.view_is) c.self.invariant.5) (rw (← c.self.view_is) refl) refl _ (rw c.adrs_at-adrs.ensures.value at c.xmss_sign_root-root.ensures.root) in
    let law = g.met.P.HashSuite.lengths g.met.P.WotsSizes.valid_wots.n_high in
    record {
      made = is_own;
      checked = c.copy.ensures ∙ root ∙ checked_up D c.args.layer law (is_own.0 c.if-is_own.true) (rw c.adrs_at-adrs.ensures.value at c.adrs_at-adrs.ensures.leaf);
      own = root;
    }

pub returns-else-is_own : goal.returns-else-is_own
returns-else-is_own g c =
    let D = dispute_on (scheme_of g.P.HashSuite.suite g.P.N.ArraySize.USIZE g.P.XmssSizes.H_PRIME g.P.HypertreeSizes.D g.P.ForsSizes.A g.P.ForsSizes.K) c.args.self.now in
    let made = layer_made D _ _ _ _ (rw (← c.self.view_is) c.self.invariant.5) (rw (← c.self.view_is) refl) refl _ _ _ refl c.requires.own (rw c.adrs_at-adrs.ensures.value at c.xmss_sign_root-root.ensures.value) in
    let is_own = own_layer_told D c.args.layer c.both_same-is_own.result _ _ _ _
    (c.as_slice.ensures.value ∙ c.requires.checked) (c.as_slice-2.ensures.value ∙ c.requires.own) c.layer_sig-sig.ensures.value made c.both_same-is_own.ensures in
    let root = layer_root D _ _ _ _ (rw (← c.self.view_is) c.self.invariant.5) (rw (← c.self.view_is) refl) refl _ (rw c.adrs_at-adrs.ensures.value at c.xmss_sign_root-root.ensures.root) in
    record {
      made = is_own;
      checked = layer_checked D _ _ _ _ _ _ _ (rw (← c.self.view_is) c.self.invariant.5) refl refl c.layer_sig-sig.ensures.value c.requires.checked (rw c.adrs_at-adrs.ensures.value at c.xmss_pk_from_sig.ensures.value);
      own = root;
    }
