use Rattle.std.proofs.Common.{arith}
use Rattle.std.proofs.lemmas.Bool.{false≢true}
use Rattle.slh_audit.proofs.Shown.{told}
use Rattle.slh_audit.proofs.Meaning.{IsShown}
use Rattle.slh_audit.proofs.dispute.Dispute.any_tree_node_shows.Goals as goal

pub returns-then-layer-D : goal.returns-then-layer-D
unfolding IsShown
returns-then-layer-D g c =
    told _ _ _ ((λ t. absurd (false≢true t)), (λ shows. absurd (omega (arith, c.if-layer-D.true, shows.2.0))))

pub returns-then-height-H_PRIME : goal.returns-then-height-H_PRIME
unfolding IsShown
returns-then-height-H_PRIME g c =
    told _ _ _ ((λ t. absurd (false≢true t)), (λ shows. absurd (omega (arith, c.if-height-H_PRIME.true, shows.1))))

pub returns-then-height-eq0 : goal.returns-then-height-eq0
unfolding IsShown
returns-then-height-eq0 g c =
    told _ _ _ ((λ t. absurd (false≢true t)), (λ shows. absurd (omega (arith, c.if-height-eq0.true, shows.0))))
