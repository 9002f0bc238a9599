use Rattle.slh_audit.proofs.Judging.{made_or_found}
use Rattle.slh_core.specs.Parameters.{scheme_of}
use Rattle.slh_audit.proofs.laws.accepted_is_made_or_found.Goals as goal

pub returns : goal.returns
returns g c =
    let Z = scheme_of g.P.HashSuite.suite g.P.N.ArraySize.USIZE g.P.XmssSizes.H_PRIME g.P.HypertreeSizes.D g.P.ForsSizes.A g.P.ForsSizes.K in
    let wots = g.met.P.WotsSizes.valid_wots in
    let law = g.met.P.HashSuite.lengths wots.n_high in
    let bytes = g.met.P.HashSuite.value_bytes in
    let layers = g.met.P.HypertreeSizes.valid_hypertree.layers in
    let low = g.met.P.XmssSizes.valid_xmss.height_low in
    rw g.met.P.ForsSizes.scheme_is
    (λ key message sig size leads. made_or_found Z key message sig law bytes wots.n_high layers low size leads)
