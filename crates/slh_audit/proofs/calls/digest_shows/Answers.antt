use Rattle.slh_audit.proofs.Answered.{shows_by_parts}
use Rattle.slh_audit.proofs.calls.digest_shows.Goals as goal

pub returns : goal.returns
returns g c =
    shows_by_parts _ _ g.met.P.ForsSizes.scheme_is _ _ _ _ _ c.args.evidence _ c.set_against-dispute.ensures.value c.shows.ensures
