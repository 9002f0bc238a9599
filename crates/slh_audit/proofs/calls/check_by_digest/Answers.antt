use Rattle.std.proofs.Common.{ap}
use Rattle.slh_audit.proofs.Answered.{shows_told}
use Rattle.slh_core.specs.Parameters.{Scheme}
use Rattle.slh_audit.proofs.calls.check_by_digest.Goals as goal

pub returns : goal.returns
returns g c =
    shows_told g.P.ForsSizes.scheme g.P.N.ArraySize.USIZE (ap (λ (Z : Scheme). Z.n) c.forest_sizes.ensures.scheme) c.args.key.now c.args.digest.now c.args.sig.now _ _ c.args.evidence _
    c.part_of-sk_seed.ensures c.part_of-pk_seed.ensures c.digest_shows.ensures
