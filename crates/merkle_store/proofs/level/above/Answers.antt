use Rattle.std.proofs.Common.{◌≡◌, ◌-◌, Some, refl, arith}
use Rattle.merkle_store.proofs.Stored.{inside_full, joined, rise_even, rise_odd, rise_within}
use Rattle.merkle_store.specs.Nodes.{run_root}
use Rattle.merkle_store.proofs.level.above.Goals as goal

pub returns-then-level-eq0-clause-within : goal.returns-then-level-eq0-clause-within
returns-then-level-eq0-clause-within g c =
    let level = c.args.level.now in
    rise_within g.H.TreeHash.hash level.height level.whole (g.N.Nodes.digests c.args.nodes.now) c.requires.within

pub returns-then-level-eq0-clause-nodes : goal.returns-then-level-eq0-clause-nodes
returns-then-level-eq0-clause-nodes g c = λ tells l is.
    let level = c.args.level.now in
    rise_even g.H.TreeHash.hash level.height level.whole level.rest (g.N.Nodes.digests c.args.nodes.now) l c.if-level-eq0.true is

pub read-requires : goal.read-requires
read-requires g c = inside_full g.H.TreeHash.hash c.args.level.now.height (c.args.level.now.whole - 1) (g.N.Nodes.digests c.args.nodes.now) (omega (arith, c.requires.within))

pub returns-in-Some-clause-within : goal.returns-in-Some-clause-within
returns-in-Some-clause-within g c =
    let level = c.args.level.now in
    rise_within g.H.TreeHash.hash level.height level.whole (g.N.Nodes.digests c.args.nodes.now) c.requires.within

pub returns-in-Some-clause-nodes : goal.returns-in-Some-clause-nodes
returns-in-Some-clause-nodes g c = λ tells l is.
    let level = c.args.level.now in
    let q = g.N.Nodes.digests c.args.nodes.now in
    let rest : Some c.node.result ≡ joined g.H.TreeHash.hash (run_root g.H.TreeHash.hash level.height (level.whole - 1) q) level.rest
    = rw (c.in-Some.is, c.node.ensures, c.in_ok-last.ensures.root tells) refl in
    rw rest (rise_odd g.H.TreeHash.hash level.height level.whole level.rest q l (omega (arith, c.if-level-eq0.false)) is)

pub returns-in-None-clause-within : goal.returns-in-None-clause-within
returns-in-None-clause-within g c =
    let level = c.args.level.now in
    rise_within g.H.TreeHash.hash level.height level.whole (g.N.Nodes.digests c.args.nodes.now) c.requires.within

pub returns-in-None-clause-nodes : goal.returns-in-None-clause-nodes
returns-in-None-clause-nodes g c = λ tells l is.
    let level = c.args.level.now in
    let q = g.N.Nodes.digests c.args.nodes.now in
    let rest : Some c.in_ok-last.last ≡ joined g.H.TreeHash.hash (run_root g.H.TreeHash.hash level.height (level.whole - 1) q) level.rest
    = rw (c.in-None.is, c.in_ok-last.ensures.root tells) refl in
    rw rest (rise_odd g.H.TreeHash.hash level.height level.whole level.rest q l (omega (arith, c.if-level-eq0.false)) is)
