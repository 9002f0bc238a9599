use Rattle.std.proofs.Common.{length}
use Rattle.std.specs.Option.{option_map}
use Rattle.slh_chain.proofs.Last.{IsBefore}
use Rattle.slh_chain.proofs.links.last_link.Given as goal

abbrev pub invariant-loop-last : goal.invariant-loop-last
invariant-loop-last g l =
    IsBefore g.P.ForsSizes.scheme l.fn.chain (option_map (λ link. record { depth = link.depth; name = link.name.now; subject = link.subject }) l.last) l.budget l.links l.rest

abbrev pub decreases-loop-last : goal.decreases-loop-last
decreases-loop-last g l = length l.rest
