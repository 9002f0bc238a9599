use Rattle.std.proofs.Common.{◌≡◌, ◌^◌, ◌<◌, ◌++◌, take, drop, ap, sym, ◌∙◌, arith}
use Rattle.std.proofs.lemmas.List.{append-nil}
use Rattle.merkle_tree.proofs.Rising.{last_fits}
use Rattle.merkle_tree.specs.Levels.{beside, pair_up}
use Rattle.merkle_store.proofs.Made.{few_at, half_len, not_top, path_none, sibling_put}
use Rattle.merkle_store.specs.Nodes.{node_list}
use Rattle.merkle_store.proofs.making.push_siblings.Goals as goal

pub each_level-preserved : goal.each_level-preserved
each_level-preserved g c =
    let l = c.each_level in
    let up = c.in_ok-level.ensures in
    let below : l.level.height < 64 = not_top l.level.height l.end l.invariant.high l.invariant.few c.each_level-test.true in
    let small : l.end < 2 ^ 64 = few_at l.level.height l.end l.invariant.few in
    record {
      within = up.within;
      high = omega (arith, up.height);
      few = rw up.height (last_fits l.level.height l.end below l.invariant.few);
      inside = omega (arith, l.invariant.inside);
      value = λ tells level is size.
          let v = l.invariant.value tells level is size in
          let sibling : node_list c.in_ok-sibling.sibling ≡ take 1 (drop (beside l.at) v.0) = rw (← c.beside.ensures) (c.in_ok-sibling.ensures.node tells v.0 v.1) in
          (pair_up g.H.TreeHash.hash v.0, up.nodes tells v.0 v.1, half_len g.H.TreeHash.hash v.0 l.end v.2, rw c.in_ok-put.ensures.put (sibling_put g.H.TreeHash.hash v.0 l.at l.end l.out.items (node_list c.in_ok-sibling.sibling) _ v.2 l.invariant.inside small sibling v.3));
    }

pub returns-clause-path : goal.returns-clause-path
returns-clause-path g c = λ tells level is size.
    let l = c.each_level in
    let v = l.invariant.value tells level is size in
    sym (append-nil l.out.items) ∙ ap (λ r. l.out.items ++ r) (sym (path_none g.H.TreeHash.hash v.0 l.at (omega (arith, v.2, c.each_level-test.false)))) ∙ v.3
