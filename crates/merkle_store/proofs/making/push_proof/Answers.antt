use Rattle.std.proofs.Common.{◌≡◌, ◌+◌, ◌-◌, ◌%◌, ◌^◌, ◌<◌, ◌≤◌, ◌++◌, true, take, length, subst, ap, sym, ◌∙◌, arith, length-take}
use Rattle.std.specs.Prelude.{OnOk}
use Rattle.std.proofs.lemmas.List.{append-nil}
use Rattle.merkle_tree.proofs.Rising.{last_fits}
use Rattle.merkle_tree.specs.Consistency.{consistency_proof, consistency_within}
use Rattle.merkle_tree.specs.Levels.{pair_up}
use Rattle.merkle_tree.specs.Tree.{path_within}
use Rattle.merkle_store.proofs.Made.{few_at, half_len, made_none, made_part, made_whole, not_top, proof_up}
use Rattle.merkle_store.proofs.Stored.{ground, ground_within}
use Rattle.merkle_store.proofs.making.push_proof.Goals.{then-at-ne0+in_ok-seed+in_ok-put, else-at-ne0}
use Rattle.merkle_store.proofs.making.push_proof.Goals as goal

pub returns-then-m-n-clause-proof : goal.returns-then-m-n-clause-proof
returns-then-m-n-clause-proof g c = λ tells.
    let q = g.N.Nodes.digests c.args.nodes.now in
    let p = take c.args.n q in
    sym (ap (λ r. c.args.out.now.items ++ r) (made_none g.H.TreeHash.hash p c.args.m (omega (arith, length-take c.args.n q, c.requires.within))) ∙ append-nil c.args.out.now.items)

pub each_level-init : goal.each_level-init
each_level-init g c =
    let q = g.N.Nodes.digests c.args.nodes.now in
    let n = c.args.n in
    let size : length (take n q) ≡ n - 1 + 1 = omega (arith, length-take n q, c.requires.within, c.requires.some, c.requires.more) in
    let old : c.args.m - 1 + 1 ≡ c.args.m = omega (arith, c.requires.some) in
    record {
      within = ground_within g.H.TreeHash.hash n q c.requires.within;
      high = omega arith;
      few = omega arith;
      inside = omega (arith, c.requires.some, c.requires.more);
      value = λ tells. (take n q, ground g.H.TreeHash.hash n q c.requires.within, size, ap (λ k. consistency_within g.H.TreeHash.hash 64 (take n q) k true) old);
    }

pub each_level-preserved : goal.each_level-preserved
each_level-preserved g c =
    let l = c.each_level in
    let up = c.in_ok-level.ensures in
    let some : 0 < l.end = omega (arith, l.invariant.inside) in
    let below : l.level.height < 64 = not_top l.level.height l.end l.invariant.high l.invariant.few some in
    let small : l.end < 2 ^ 64 = few_at l.level.height l.end l.invariant.few in
    record {
      within = up.within;
      high = omega (arith, up.height);
      few = rw up.height (last_fits l.level.height l.end below l.invariant.few);
      inside = omega (arith, l.invariant.inside, c.each_level-test.true);
      value = λ tells. let v = l.invariant.value tells in (pair_up g.H.TreeHash.hash v.0, up.nodes tells v.0 v.1, half_len g.H.TreeHash.hash v.0 l.end v.2, proof_up g.H.TreeHash.hash v.0 (take c.args.n (g.N.Nodes.digests c.args.nodes.now)) l.at c.args.m c.each_level-test.true (omega (arith, v.2, l.invariant.inside)) (omega (arith, v.2)) v.3);
    }

pub returns-clause-proof : goal.returns-clause-proof
returns-clause-proof g c = λ tells.
    let l = c.each_level in
    let q = g.N.Nodes.digests c.args.nodes.now in
    let p = take c.args.n q in
    let v = l.invariant.value tells in
    let small : l.end < 2 ^ 64 = few_at l.level.height l.end l.invariant.few in
    let even : l.at % 2 ≡ 0 = omega (arith, c.each_level-test.false) in
    let inside : l.at + 1 < length v.0 = omega (arith, v.2, l.invariant.inside) in
    let few : length v.0 ≤ 2 ^ 64 = omega (arith, v.2) in
    let size : length p ≡ c.args.n = omega (arith, length-take c.args.n q, c.requires.within) in
    let within : c.args.m ≤ length p = omega (arith, c.requires.more) in
    let whole : c.if-at-ne0.out.items ++ path_within g.H.TreeHash.hash 64 v.0 l.at ≡ c.args.out.now.items ++ consistency_proof g.H.TreeHash.hash p c.args.m = elim c.if-at-ne0.branch [
      | then-at-ne0+in_ok-seed+in_ok-put w ↦ rw (w.out-is, w.in_ok-put.ensures.put)
          (made_part g.H.TreeHash.hash v.0 p l.at c.args.m c.args.out.now.items _ even inside few within (omega arith) v.3 w.if-at-ne0.true (w.in_ok-seed.ensures.node tells v.0 v.1))
      | else-at-ne0 w ↦ rw w.out-is (made_whole g.H.TreeHash.hash v.0 p l.at c.args.m c.args.out.now.items even inside few within (omega arith) v.3 w.if-at-ne0.false)
    ] in
    subst (λ e. OnOk c.push_siblings.result (c.push_siblings.new.out.items ≡ e)) whole (c.push_siblings.ensures.path tells v.0 v.1 v.2)
