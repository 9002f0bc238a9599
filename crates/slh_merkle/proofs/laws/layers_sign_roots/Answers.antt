use Rattle.slh_core.specs.Suite.{seeded}
use Rattle.slh_merkle.proofs.Layers.{checked_message-signature}
use Rattle.slh_merkle.proofs.laws.layers_sign_roots.Goals as goal

pub returns-clause-below : goal.returns-clause-below
returns-clause-below g c = λ s sk m t l d j small inside.
    let K = seeded g.P.HashSuite.suite g.P.N.ArraySize.USIZE s in
    let law = g.met.P.HashSuite.lengths g.met.P.WotsSizes.valid_wots.n_high in
    checked_message-signature K g.P.XmssSizes.H_PRIME sk t l m d j law small inside
