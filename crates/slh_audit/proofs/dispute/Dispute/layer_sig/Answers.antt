use Rattle.slh_merkle.proofs.Layers.{part_fits}
use Rattle.slh_audit.proofs.dispute.Dispute.layer_sig.Goals as goal

pub piece-requires : goal.piece-requires
piece-requires g c =
    part_fits c.args.layer g.P.HypertreeSizes.D c.layer_len.result _ c.requires (rw c.layer_len.ensures.value c.self.invariant.2)
