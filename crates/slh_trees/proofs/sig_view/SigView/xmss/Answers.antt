use Rattle.slh_merkle.proofs.Layers.{part_fits}
use Rattle.slh_trees.proofs.sig_view.SigView.xmss.Goals as goal

pub piece-requires : goal.piece-requires
piece-requires g c =
    part_fits c.args.j g.P.HypertreeSizes.D c.layer_len.result _ c.requires (rw c.layer_len.ensures.value c.layers.ensures.len)
