use Rattle.std.proofs.Common.{arith}
use Rattle.merkle_store.proofs.Stored.{inside_full, read_whole}
use Rattle.merkle_store.proofs.level.node_at.Goals as goal

pub read-requires : goal.read-requires
read-requires g c = inside_full g.H.TreeHash.hash c.args.level.now.height c.args.i (g.N.Nodes.digests c.args.nodes.now) (omega (arith, c.requires))

pub returns-then-i-level-clause-node : goal.returns-then-i-level-clause-node
returns-then-i-level-clause-node g c = λ tells l is.
    let level = c.args.level.now in
    rw (c.in_ok-node.ensures.root tells) (read_whole g.H.TreeHash.hash level.height level.whole c.args.i level.rest (g.N.Nodes.digests c.args.nodes.now) l c.if-i-level.true is)
