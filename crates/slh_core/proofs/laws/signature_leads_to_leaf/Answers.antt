use Rattle.slh_core.specs.Suite.{seeded}
use Rattle.slh_core.proofs.Chains.{wots_pk_from_sig-wots_sig}
use Rattle.slh_core.proofs.laws.signature_leads_to_leaf.Goals as goal

pub returns : goal.returns
returns g c = λ s sk m j t l.
    let K = seeded g.P.HashSuite.suite g.P.N.ArraySize.USIZE s in
    wots_pk_from_sig-wots_sig K sk j t l m (g.met.P.HashSuite.lengths g.met.P.WotsSizes.valid_wots.n_high)
