use Rattle.std.proofs.Common.{◌≡◌, ◌-◌, ◌*◌, ◌^◌, ◌≤◌, ◌++◌, suc, length, take, drop, ap, sym, ◌∙◌, arith, length-take, length-drop}
use Rattle.std.proofs.Math.Nat.{pow-suc}
use Rattle.std.proofs.lemmas.List.{append-nil, drop_all, length-set}
use Rattle.merkle_tree.proofs.Ways.{enough, path_any, tree_any}
use Rattle.merkle_tree.specs.Tree.{tree_within}
use Rattle.merkle_clash.proofs.Paths.{front_put, low_put, no_path, rest_put}
use Rattle.merkle_clash.proofs.inclusion.put_path.Goals as goal

pub each_height-init : goal.each_height-init
each_height-init g c =
    record {
      inside = c.requires;
      few = omega arith;
      room = omega arith;
      top = omega arith;
      size = omega arith;
      path = rw (drop_all 64 c.args.path.now (omega arith)) (append-nil _);
    }

pub each_height-preserved-then-at-len : goal.each_height-preserved-then-at-len
each_height-preserved-then-at-len g c =
    let H = g.H.TreeHash.hash in
    let l = c.each_height in
    let z = l.height - 1 in
    let part = l.part.now in
    let tall : l.height ≡ suc z = omega arith in
    let twice : 2 ^ l.height ≡ 2 * 2 ^ z = ap (λ k. 2 ^ k) tall ∙ pow-suc 2 z ∙ omega arith in
    let front : length c.split_at.result.0.now ≡ 2 ^ z = omega (arith, c.split_at.ensures.front_len, c.pow-len.ensures) in
    let late : length (drop (2 ^ z) part) ≤ 2 ^ z = omega (arith, length-drop (2 ^ z) part, l.invariant.few, twice) in
    let root : c.root_of.result ≡ tree_within H z (drop (2 ^ z) part) = c.root_of.ensures ∙ rw (c.split_at.ensures.back, c.pow-len.ensures) (tree_any H (length (drop (2 ^ z) part)) z (drop (2 ^ z) part) (enough (length (drop (2 ^ z) part))) late) in
    record {
      inside = omega (arith, front, c.if-at-len.true, c.pow-len.ensures);
      few = omega (arith, front);
      room = omega (arith, l.invariant.room);
      top = omega (arith, l.invariant.top);
      size = length-set l.path (l.start - 1) c.root_of.result ∙ l.invariant.size;
      path = rw (c.split_at.ensures.front, c.pow-len.ensures) (front_put H l.height z part l.path l.at l.start c.root_of.result tall (omega (arith, c.if-at-len.true, c.pow-len.ensures)) (omega (arith, c.if-part-len.true, c.pow-len.ensures)) (omega (arith, l.invariant.room)) (omega (arith, l.invariant.top, l.invariant.size)) root) ∙ l.invariant.path;
    }

pub each_height-preserved-else-at-len : goal.each_height-preserved-else-at-len
each_height-preserved-else-at-len g c =
    let H = g.H.TreeHash.hash in
    let l = c.each_height in
    let z = l.height - 1 in
    let part = l.part.now in
    let tall : l.height ≡ suc z = omega arith in
    let twice : 2 ^ l.height ≡ 2 * 2 ^ z = ap (λ k. 2 ^ k) tall ∙ pow-suc 2 z ∙ omega arith in
    let rest : length c.split_at.result.1.now ≡ length part - 2 ^ z = omega (arith, c.split_at.ensures.back_len, c.pow-len.ensures) in
    let early : length (take (2 ^ z) part) ≤ 2 ^ z = omega (arith, length-take (2 ^ z) part) in
    let root : c.root_of-else-at-len.result ≡ tree_within H z (take (2 ^ z) part) = c.root_of-else-at-len.ensures ∙ rw (c.split_at.ensures.front, c.pow-len.ensures) (tree_any H (length (take (2 ^ z) part)) z (take (2 ^ z) part) (enough (length (take (2 ^ z) part))) early) in
    record {
      inside = omega (arith, rest, l.invariant.inside, c.if-at-len.false, c.pow-len.ensures);
      few = omega (arith, rest, l.invariant.few, twice);
      room = omega (arith, l.invariant.room);
      top = omega (arith, l.invariant.top);
      size = length-set l.path (l.start - 1) c.root_of-else-at-len.result ∙ l.invariant.size;
      path = rw (c.split_at.ensures.back, c.pow-len.ensures) (rest_put H l.height z part l.path l.at l.start c.root_of-else-at-len.result tall (omega (arith, c.if-at-len.false, c.pow-len.ensures)) (omega (arith, c.if-part-len.true, c.pow-len.ensures)) (omega (arith, l.invariant.room)) (omega (arith, l.invariant.top, l.invariant.size)) root) ∙ l.invariant.path;
    }

pub each_height-preserved : goal.each_height-preserved
each_height-preserved g c =
    let H = g.H.TreeHash.hash in
    let l = c.each_height in
    let z = l.height - 1 in
    let low : length l.part.now ≤ 2 ^ z = omega (arith, c.if-part-len.false, c.pow-len.ensures) in
    record {
      inside = l.invariant.inside;
      few = low;
      room = omega (arith, l.invariant.room);
      top = l.invariant.top;
      size = l.invariant.size;
      path = ap (λ r. r ++ drop l.start l.path) (low_put H l.height z l.part.now l.at (omega arith) low) ∙ l.invariant.path;
    }

pub returns-clause-path : goal.returns-clause-path
returns-clause-path g c =
    let H = g.H.TreeHash.hash in
    let l = c.each_height in
    let q = c.args.digests.now in
    let bottom : l.height ≡ 0 = omega (arith, c.each_height-test.false) in
    let few : length q ≤ 2 ^ 64 = omega arith in
    ap (λ r. r ++ drop l.start l.path) (sym (no_path H l.height l.part.now l.at bottom)) ∙ l.invariant.path ∙ path_any H 64 (length q) q c.args.index few (enough (length q))
