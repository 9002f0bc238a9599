use Rattle.slh_chain.proofs.Stands.{walked_stands}
use Rattle.slh_chain.proofs.chain.Chain.open.Goals as goal

pub invariant_of-result : goal.invariant_of-result
invariant_of-result g c =
    walked_stands g.P.ForsSizes.scheme c.args.root.now c.args.bytes.now _ c.in-Ok.ensures.end
