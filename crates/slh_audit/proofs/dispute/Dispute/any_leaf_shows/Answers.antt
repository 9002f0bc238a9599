use Rattle.std.proofs.Common.{arith}
use Rattle.std.proofs.lemmas.Bool.{false≢true}
use Rattle.slh_audit.proofs.Shown.{told}
use Rattle.slh_audit.proofs.Meaning.{IsShown}
use Rattle.slh_audit.proofs.dispute.Dispute.any_leaf_shows.Goals as goal

pub returns-then-layer-D : goal.returns-then-layer-D
unfolding IsShown
returns-then-layer-D g c =
    told _ _ _ ((λ t. absurd (false≢true t)), (λ shows. absurd (omega (arith, c.if-layer-D.true, shows.0))))
