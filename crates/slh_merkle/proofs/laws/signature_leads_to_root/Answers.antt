use Rattle.slh_core.specs.Suite.{seeded}
use Rattle.slh_merkle.proofs.Climbs.{checked_node-xmss_sig}
use Rattle.slh_merkle.proofs.laws.signature_leads_to_root.Goals as goal

pub returns : goal.returns
returns g c = λ s sk m j t y below.
    let K = seeded g.P.HashSuite.suite g.P.N.ArraySize.USIZE s in
    let law = g.met.P.HashSuite.lengths g.met.P.WotsSizes.valid_wots.n_high in
    checked_node-xmss_sig K sk g.P.XmssSizes.H_PRIME j t y m law below
