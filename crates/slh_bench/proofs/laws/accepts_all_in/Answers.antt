use Rattle.slh_core.specs.Parameters.{scheme_of}
use Rattle.slh_frames.specs.declared.frame.Mode.TheVariants.{Pure}
use Rattle.slh_bench.proofs.Accepting.{accepts_all}
use Rattle.slh_bench.proofs.laws.accepts_all_in.Goals as goal

pub returns : goal.returns
returns g c = λ prk count.
    let Z = scheme_of g.P.HashSuite.suite g.P.N.ArraySize.USIZE g.P.XmssSizes.H_PRIME g.P.HypertreeSizes.D g.P.ForsSizes.A g.P.ForsSizes.K in
    let law = g.met.P.HashSuite.lengths g.met.P.WotsSizes.valid_wots.n_high in
    let signed = rw g.met.P.ForsSizes.scheme_is at c.signed_is_accepted.ensures in
    rw g.met.P.ForsSizes.scheme_is (accepts_all Z prk law (signed Pure) count)
