use Rattle.slh_core.specs.Suite.{seeded}
use Rattle.slh_merkle.proofs.Climbs.{climb-auth_path}
use Rattle.slh_merkle.proofs.laws.path_leads_to_root.Goals as goal

pub returns : goal.returns
returns g c = λ s sk j t y below.
    let K = seeded g.P.HashSuite.suite g.P.N.ArraySize.USIZE s in
    let law = g.met.P.HashSuite.lengths g.met.P.WotsSizes.valid_wots.n_high in
    climb-auth_path K sk g.P.XmssSizes.H_PRIME j t y law below
