use Rattle.std.proofs.Common.{arith}
use Rattle.slh_core.proofs.Joins.{whole_joined}
use Rattle.slh_core.proofs.active_chains.ActiveChains.write_to.Goals as goal

pub returns : goal.returns
returns c =
    whole_joined _ c.args.n c.args.self.now.count c.loop-c.c c.loop-c.out (omega arith) (omega (arith, c.requires.whole)) c.loop-c.invariant
