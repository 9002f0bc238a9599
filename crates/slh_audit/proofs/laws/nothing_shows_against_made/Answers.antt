use Rattle.std.proofs.Common.{take}
use Rattle.slh_audit.proofs.Binding.{sized_dispute}
use Rattle.slh_audit.proofs.Judging.{none_against}
use Rattle.slh_core.specs.Bytes.{part}
use Rattle.slh_core.specs.Parameters.{scheme_of}
use Rattle.slh_audit.proofs.laws.nothing_shows_against_made.Goals as goal

pub returns : goal.returns
returns g c =
    let Z = scheme_of g.P.HashSuite.suite g.P.N.ArraySize.USIZE g.P.XmssSizes.H_PRIME g.P.HypertreeSizes.D g.P.ForsSizes.A g.P.ForsSizes.K in
    let wots = g.met.P.WotsSizes.valid_wots in
    let law = g.met.P.HashSuite.lengths wots.n_high in
    let bytes = g.met.P.HashSuite.value_bytes in
    let layers = g.met.P.HypertreeSizes.valid_hypertree.layers in
    let low = g.met.P.XmssSizes.valid_xmss.height_low in
    rw g.met.P.ForsSizes.scheme_is
    (λ key message sig e size made.
    let s = part Z.n key 2 in
    let sk = part Z.n key 0 in
    let digest = Z.suite.h_msg (take Z.n sig) s (part Z.n key 3) message in
    none_against Z s sk digest sig e law (sized_dispute Z s sk digest sig law bytes wots.n_high layers low size) size made)
