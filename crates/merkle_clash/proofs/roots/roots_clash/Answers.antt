use Rattle.std.proofs.Common.{◌^◌, ◌≤◌, length, arith, sym, ◌∙◌}
use Rattle.merkle_tree.proofs.Ways.{enough}
use Rattle.merkle_clash.proofs.Finding.{pairs_any}
use Rattle.merkle_clash.proofs.Fitting.{no_digests, no_roots, roots_fit}
use Rattle.merkle_clash.proofs.roots.roots_clash.Goals as goal
use Rattle.merkle_clash.proofs.roots.roots_clash.Goals.{then-p-q-via-then-p-q, then-p-q-via-else-p-q+then-is_empty}

pub returns-then-p-q : goal.returns-then-p-q
returns-then-p-q g c = elim c.then-p-q.branch [
  | then-p-q-via-then-p-q w ↦ no_roots g.H.TreeHash.hash c.args.p.now c.args.q.now w.if-p-q.true
  | then-p-q-via-else-p-q+then-is_empty w ↦ no_digests g.H.TreeHash.hash c.args.p.now c.args.q.now (sym w.is_empty.ensures ∙ w.if-is_empty.true)
]

pub returns : goal.returns
returns g c =
    let p = c.args.p.now in
    let q = c.args.q.now in
    let low : length q ≤ 2 ^ 64 = omega arith in
    rw (roots_fit g.H.TreeHash.hash p q c.if-p-q.false, pairs_any g.H.TreeHash.hash (length q) 64 p q (enough (length q)) low) c.trees_clash.ensures
