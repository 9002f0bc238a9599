use Rattle.slh_merkle.proofs.Layers.{part_fits}
use Rattle.slh_trees.proofs.sig_view.SigView.chain.Goals as goal

pub value-requires : goal.value-requires
value-requires g c =
    part_fits c.args.c g.P.WotsSizes.WOTS_SIG_LEN g.P.N.ArraySize.USIZE _ c.requires.chain c.layer_values.ensures.chains_len
