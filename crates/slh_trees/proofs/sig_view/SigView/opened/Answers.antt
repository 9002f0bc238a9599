use Rattle.slh_merkle.proofs.Layers.{part_fits}
use Rattle.slh_trees.proofs.sig_view.SigView.opened.Goals as goal

pub piece-requires : goal.piece-requires
piece-requires g c =
    part_fits c.args.i g.P.ForsSizes.K c.opened_len.result _ c.requires (rw c.opened_len.ensures.value c.fors.ensures.len)
