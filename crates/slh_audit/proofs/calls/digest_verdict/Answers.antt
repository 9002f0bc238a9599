use Rattle.slh_audit.proofs.Answered.{genuine_by_parts, verdict_by_search}
use Rattle.slh_audit.proofs.calls.digest_verdict.Goals as goal

pub returns-then-all_made : goal.returns-then-all_made
returns-then-all_made g c =
    let n_high = g.met.P.WotsSizes.valid_wots.n_high in
    genuine_by_parts _ _ g.met.P.ForsSizes.scheme_is _ _ _ _ _ (g.met.P.HashSuite.lengths n_high) g.met.P.HashSuite.value_bytes n_high g.met.P.HypertreeSizes.valid_hypertree.layers g.met.P.XmssSizes.valid_xmss.height_low c.set_against.ensures.whole c.set_against.ensures.value
    _ _ c.compare_forest-made.ensures.made c.own_from-lowest.ensures.own (c.all_made.ensures.0 c.if-all_made.true)

pub returns : goal.returns
returns g c =
    let n_high = g.met.P.WotsSizes.valid_wots.n_high in
    verdict_by_search _ _ g.met.P.ForsSizes.scheme_is _ _ _ _ _ (g.met.P.HashSuite.lengths n_high) g.met.P.HashSuite.value_bytes n_high g.met.P.HypertreeSizes.valid_hypertree.layers g.met.P.XmssSizes.valid_xmss.height_low c.set_against.ensures.whole c.set_against.ensures.value
    _ _ c.first_evidence.ensures c.foreign_by.ensures
