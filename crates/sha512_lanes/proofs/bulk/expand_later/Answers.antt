use Rattle.std.proofs.Common.{arith}
use Rattle.sha512_lanes.proofs.Batches.{filled_at}
use Rattle.sha512_lanes.proofs.bulk.expand_later.Goals as goal

pub laters-init : goal.laters-init
laters-init c = λ p filled. filled

pub laters-preserved : goal.laters-preserved
laters-preserved c = λ p filled. c.put_later.ensures p (c.laters.invariant p filled)

pub returns : goal.returns
returns c = λ p filled. filled_at _ _ _ 80 (omega arith) (c.laters.invariant p filled)
