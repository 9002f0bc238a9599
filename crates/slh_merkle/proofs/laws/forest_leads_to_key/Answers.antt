use Rattle.slh_core.specs.Suite.{seeded}
use Rattle.slh_merkle.proofs.Forests.{fors_pk_from_sig-signature}
use Rattle.slh_merkle.proofs.laws.forest_leads_to_key.Goals as goal

pub returns : goal.returns
returns g c = λ s sk md t l.
    let K = seeded g.P.HashSuite.suite g.P.N.ArraySize.USIZE s in
    let law = g.met.P.HashSuite.lengths g.met.P.WotsSizes.valid_wots.n_high in
    fors_pk_from_sig-signature K sk t l g.P.ForsSizes.K g.P.ForsSizes.A md law
