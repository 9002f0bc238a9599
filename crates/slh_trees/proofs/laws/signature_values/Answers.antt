use Rattle.slh_trees.proofs.Signatures.{size_in_values}
use Rattle.slh_trees.proofs.laws.signature_values.Goals as goal

pub returns : goal.returns
returns g c =
    let hypertree = g.met.P.HypertreeSizes.valid_hypertree in
    rw g.met.P.ForsSizes.scheme_is
    (size_in_values g.P.N.ArraySize.USIZE g.P.ForsSizes.K g.P.ForsSizes.A g.P.XmssSizes.H_PRIME g.P.HypertreeSizes.D g.P.WotsSizes.WOTS_SIG_LEN g.P.HypertreeSizes.H g.met.P.WotsSizes.valid_wots.signature_len hypertree.height)
