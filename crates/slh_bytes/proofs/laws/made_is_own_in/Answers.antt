use Rattle.slh_core.specs.Parameters.{scheme_of}
use Rattle.slh_bytes.proofs.OwnKeys.{made_is_own}
use Rattle.slh_bytes.proofs.laws.made_is_own_in.Goals as goal

pub returns : goal.returns
returns g c =
    let Z = scheme_of g.P.HashSuite.suite g.P.N.ArraySize.USIZE g.P.XmssSizes.H_PRIME g.P.HypertreeSizes.D g.P.ForsSizes.A g.P.ForsSizes.K in
    let law = g.met.P.HashSuite.lengths g.met.P.WotsSizes.valid_wots.n_high in
    rw g.met.P.ForsSizes.scheme_is (made_is_own Z law)
