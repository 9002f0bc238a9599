use Rattle.slh_core.specs.Parameters.{scheme_of}
use Rattle.slh_dsa.proofs.Accepted.{accepted_message}
use Rattle.slh_dsa.proofs.laws.signed_is_accepted.Goals as goal

pub returns : goal.returns
returns g c = λ mode key context message opt_rand.
    let Z = scheme_of g.P.HashSuite.suite g.P.N.ArraySize.USIZE g.P.XmssSizes.H_PRIME g.P.HypertreeSizes.D g.P.ForsSizes.A g.P.ForsSizes.K in
    let law = g.met.P.HashSuite.lengths g.met.P.WotsSizes.valid_wots.n_high in
    rw g.met.P.ForsSizes.scheme_is
    (accepted_message Z mode key context message opt_rand law g.met.P.HypertreeSizes.valid_hypertree.layers)
