use Rattle.slh_core.specs.Parameters.{scheme_of}
use Rattle.slh_trees.proofs.Signatures.{checked_root-signature}
use Rattle.slh_trees.proofs.laws.made_leads_to_top.Goals as goal

pub returns : goal.returns
returns g c = λ key rand message size.
    let Z = scheme_of g.P.HashSuite.suite g.P.N.ArraySize.USIZE g.P.XmssSizes.H_PRIME g.P.HypertreeSizes.D g.P.ForsSizes.A g.P.ForsSizes.K in
    let law = g.met.P.HashSuite.lengths g.met.P.WotsSizes.valid_wots.n_high in
    rw g.met.P.ForsSizes.scheme_is
    (checked_root-signature Z key rand message law g.met.P.HypertreeSizes.valid_hypertree.layers size)
