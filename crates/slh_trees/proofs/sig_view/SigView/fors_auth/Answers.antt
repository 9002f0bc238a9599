use Rattle.slh_merkle.proofs.Layers.{part_fits}
use Rattle.slh_trees.proofs.sig_view.SigView.fors_auth.Goals as goal

pub value-requires : goal.value-requires
value-requires g c =
    part_fits c.args.z g.P.ForsSizes.A g.P.N.ArraySize.USIZE _ c.requires.height c.fors_siblings.ensures.len
