use Rattle.std.proofs.Common.{arith}
use Rattle.sha512_lanes.proofs.Batches.{filled_at, filled_none}
use Rattle.sha512_lanes.proofs.bulk.expand_first.Goals as goal

pub firsts-init : goal.firsts-init
firsts-init c = filled_none c.args.next.now c.args.blocks.now

pub firsts-preserved : goal.firsts-preserved
firsts-preserved c = c.put_first.ensures c.firsts.invariant

pub returns : goal.returns
returns c = filled_at _ _ _ 16 (omega arith) c.firsts.invariant
