use Rattle.std.proofs.Common.{◌≡◌, ◌+◌, ◌-◌, ◌++◌, length, take, subst, arith, length-take}
use Rattle.std.specs.Prelude.{OnOk}
use Rattle.merkle_store.proofs.Made.{path_is}
use Rattle.merkle_store.proofs.Stored.{ground, ground_within}
use Rattle.merkle_store.proofs.making.push_path.Goals as goal

pub push_siblings-requires-clause-within : goal.push_siblings-requires-clause-within
push_siblings-requires-clause-within g c = ground_within g.H.TreeHash.hash c.args.n (g.N.Nodes.digests c.args.nodes.now) c.requires.within

pub returns-clause-path : goal.returns-clause-path
returns-clause-path g c = λ tells.
    let q = g.N.Nodes.digests c.args.nodes.now in
    let n = c.args.n in
    let size : length (take n q) ≡ n - 1 + 1 = omega (arith, length-take n q, c.requires.within, c.requires.inside) in
    subst (λ e. OnOk c.push_siblings.result (c.push_siblings.new.out.items ≡ c.args.out.now.items ++ e)) (path_is g.H.TreeHash.hash (take n q) c.args.i (omega arith))
    (c.push_siblings.ensures.path tells (take n q) (ground g.H.TreeHash.hash n q c.requires.within) size)
