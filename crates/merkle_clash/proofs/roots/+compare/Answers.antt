use Rattle.std.proofs.Common.{◌≡◌, ◌-◌, ◌^◌, take, drop, refl, ◌∙◌, arith}
use Rattle.merkle_tree.specs.Binding.{tree_pairs}
use Rattle.merkle_tree.specs.Clashes.{first_clash}
use Rattle.merkle_tree.specs.Tree.{tree_within}
use Rattle.merkle_clash.proofs.Finding.{IsFirst, joined_both, root_high, root_low, root_one, tops, trees_low, trees_split}
use Rattle.merkle_clash.proofs.roots.+compare.Goals as goal

pub returns-then-height-eq0-clause-first : goal.returns-then-height-eq0-clause-first
returns-then-height-eq0-clause-first g t c = root_one g.H.TreeHash.hash c.args.height c.args.p.now c.if-height-eq0.true (omega (arith, c.requires.some, c.requires.same))

pub returns-then-height-eq0-clause-second : goal.returns-then-height-eq0-clause-second
returns-then-height-eq0-clause-second g t c = root_one g.H.TreeHash.hash c.args.height c.args.q.now c.if-height-eq0.true (omega (arith, c.requires.some, c.requires.same))

pub returns-then-height-eq0-clause-clash : goal.returns-then-height-eq0-clause-clash
unfolding first_clash tree_pairs
returns-then-height-eq0-clause-clash g t c = rw c.if-height-eq0.true refl

pub returns-then-q-len-clause-first : goal.returns-then-q-len-clause-first
returns-then-q-len-clause-first g t c =
    let h = c.args.height in
    c.compare.ensures.first ∙ root_low g.H.TreeHash.hash h (h - 1) c.args.p.now (omega (arith, c.if-height-eq0.false)) (omega (arith, c.if-q-len.true, c.front_len-len.ensures.value, c.requires.same))

pub returns-then-q-len-clause-second : goal.returns-then-q-len-clause-second
returns-then-q-len-clause-second g t c =
    let h = c.args.height in
    c.compare.ensures.second ∙ root_low g.H.TreeHash.hash h (h - 1) c.args.q.now (omega (arith, c.if-height-eq0.false)) (omega (arith, c.if-q-len.true, c.front_len-len.ensures.value, c.requires.same))

pub returns-then-q-len-clause-clash : goal.returns-then-q-len-clause-clash
returns-then-q-len-clause-clash g t c =
    let h = c.args.height in
    rw (trees_low g.H.TreeHash.hash h (h - 1) c.args.p.now c.args.q.now (omega (arith, c.if-height-eq0.false)) (omega (arith, c.if-q-len.true, c.front_len-len.ensures.value))) c.compare.ensures.clash

pub returns-clause-first : goal.returns-clause-first
returns-clause-first g t c =
    let H = g.H.TreeHash.hash in
    let h = c.args.height in
    let z = h - 1 in
    let p = c.args.p.now in
    let s = 2 ^ z in
    let front : c.compare-front.result.first ≡ tree_within H z (take s p) = rw (← c.front_len-len.ensures.value, ← c.split_at.ensures.front) c.compare-front.ensures.first in
    let rest : c.compare-rest.result.first ≡ tree_within H z (drop s p) = rw (← c.front_len-len.ensures.value, ← c.split_at.ensures.back) c.compare-rest.ensures.first in
    c.node-first.ensures ∙ rw (front, rest) (root_high H h z p (omega (arith, c.if-height-eq0.false)) (omega (arith, c.if-q-len.false, c.front_len-len.ensures.value, c.requires.same)))

pub returns-clause-second : goal.returns-clause-second
returns-clause-second g t c =
    let H = g.H.TreeHash.hash in
    let h = c.args.height in
    let z = h - 1 in
    let q = c.args.q.now in
    let s = 2 ^ z in
    let front : c.compare-front.result.second ≡ tree_within H z (take s q) = rw (← c.front_len-len.ensures.value, ← c.split_at-2.ensures.front) c.compare-front.ensures.second in
    let rest : c.compare-rest.result.second ≡ tree_within H z (drop s q) = rw (← c.front_len-len.ensures.value, ← c.split_at-2.ensures.back) c.compare-rest.ensures.second in
    c.node-second.ensures ∙ rw (front, rest) (root_high H h z q (omega (arith, c.if-height-eq0.false)) (omega (arith, c.if-q-len.false, c.front_len-len.ensures.value, c.requires.same)))

pub returns-clause-clash : goal.returns-clause-clash
returns-clause-clash g t c =
    let H = g.H.TreeHash.hash in
    let h = c.args.height in
    let z = h - 1 in
    let p = c.args.p.now in
    let q = c.args.q.now in
    let s = 2 ^ z in
    let front_p : c.compare-front.result.first ≡ tree_within H z (take s p) = rw (← c.front_len-len.ensures.value, ← c.split_at.ensures.front) c.compare-front.ensures.first in
    let rest_p : c.compare-rest.result.first ≡ tree_within H z (drop s p) = rw (← c.front_len-len.ensures.value, ← c.split_at.ensures.back) c.compare-rest.ensures.first in
    let front_q : c.compare-front.result.second ≡ tree_within H z (take s q) = rw (← c.front_len-len.ensures.value, ← c.split_at-2.ensures.front) c.compare-front.ensures.second in
    let rest_q : c.compare-rest.result.second ≡ tree_within H z (drop s q) = rw (← c.front_len-len.ensures.value, ← c.split_at-2.ensures.back) c.compare-rest.ensures.second in
    let top : IsFirst H c.clash_of-top.result (tops H z p q) = rw (← front_p, ← rest_p, ← front_q, ← rest_q) c.clash_of-top.ensures in
    let in_front : IsFirst H c.compare-front.result.clash (tree_pairs H z (take s p) (take s q)) = rw (← c.front_len-len.ensures.value, ← c.split_at.ensures.front, ← c.split_at-2.ensures.front) c.compare-front.ensures.clash in
    let in_rest : IsFirst H c.compare-rest.result.clash (tree_pairs H z (drop s p) (drop s q)) = rw (← c.front_len-len.ensures.value, ← c.split_at.ensures.back, ← c.split_at-2.ensures.back) c.compare-rest.ensures.clash in
    rw (trees_split H h z p q (omega (arith, c.if-height-eq0.false)) (omega (arith, c.if-q-len.false, c.front_len-len.ensures.value)))
    (joined_both H c.clash_of-top.result c.compare-front.result.clash c.compare-rest.result.clash c.or.result c.or-clash.result (tops H z p q) (tree_pairs H z (take s p) (take s q)) (tree_pairs H z (drop s p) (drop s q)) c.or.ensures c.or-clash.ensures top in_front in_rest)
