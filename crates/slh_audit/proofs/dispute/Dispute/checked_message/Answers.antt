use Rattle.std.proofs.Common.{arith}
use Rattle.std.proofs.lemmas.Grind.{common_steps}
use Rattle.slh_merkle.specs.Checking.{checked_message}
use Rattle.slh_merkle.proofs.Layers.{checked_message-more}
use Rattle.slh_audit.proofs.dispute.Dispute.checked_message.Goals as goal

pub loop-j-init : goal.loop-j-init
unfolding checked_message
loop-j-init g c = c.checked_key-message.ensures

pub loop-j-preserved : goal.loop-j-preserved
loop-j-preserved g c =
    rw (c.xmss_pk_from_sig-message.ensures.value, c.self.invariant.5, c.adrs_at-adrs.ensures.value, c.layer_sig-sig.ensures.value, c.loop-j.invariant, ← c.self.view_is)
    (checked_message-more _ g.P.XmssSizes.H_PRIME c.self.inside.tree c.self.inside.leaf c.self.inside.layers.now _ c.loop-j.j)

pub returns : goal.returns
returns g c = grind (arith, common_steps)
