use Rattle.std.proofs.Common.{◌≡◌, ◌+◌, ◌-◌, ◌^◌, ◌<◌, ℕ, [], ◌∷◌, ◌++◌, ◌*◌, ◌/◌, ◌%◌, length, refl, sym, ap, subst, ◌∙◌, arith, drop, take}
use Rattle.std.proofs.lemmas.Nat.{pow-add}
use Rattle.std.proofs.lemmas.List.{length-set}
use Rattle.merkle_tree.specs.Tree.{tree_root}
use Rattle.log_tiles.specs.Tiles.{AreTilesOf, Tiles, full_within, level_hash}
use Rattle.log_tiles.proofs.Rows.{finish, first, full_none, full_step, full_stop, row_is, write}
use Rattle.log_tiles.proofs.growing.GrowingTiles.push.Goals as goal
use Rattle.log_tiles.proofs.growing.GrowingTiles.push.Goals.{then-each_level-test+else-at-eq255, else-each_level-test}

pub each_level-init : goal.each_level-init
each_level-init g c =
    let count : c.self.inside.count ≡ c.args.self.now.count = ap (λ (t : Tiles). t.count) c.self.view_is in
    record {
      room = length-set c.self.inside.hashes (c.self.inside.count % 256) c.args.digest.now ∙ c.self.invariant;
      few = omega arith;
      count = count;
      ends = omega (arith, count);
      full = omega (arith, ap (λ n. full_within 7 (n + 1)) count);
      carried = λ q are.
          first g.H.TreeHash.hash (record { count = c.self.inside.count; hashes = c.self.inside.hashes }) q c.args.digest.now c.self.inside.count refl c.self.invariant
          (subst (λ (t : Tiles). AreTilesOf g.H.TreeHash.hash t q) (sym c.self.view_is) are);
    }

pub each_level-preserved : goal.each_level-preserved
each_level-preserved g c =
    let l = c.each_level in
    let i = l.invariant in
    let full : l.at % 256 ≡ 255 = c.if-at-eq255.true in
    let below : l.level < 7 = omega (arith, c.each_level-test.true) in
    let whole : l.at + 1 ≡ (l.at / 256 + 1) * 256 = omega (arith, full) in
    let p = 2 ^ (8 * l.level) in
    let height : 8 * (l.level + 1) ≡ 8 * l.level + 8 = omega arith in
    let pow : 2 ^ (8 * (l.level + 1)) ≡ p * 256 = ap (λ h. 2 ^ h) height ∙ pow-add 2 (8 * l.level) 8 in
    let ends : c.args.self.now.count + 1 ≡ (l.at / 256 + 1) * 2 ^ (8 * (l.level + 1)) = i.ends ∙ ap (λ n. n * p) whole ∙ omega (arith, ap (λ r. (l.at / 256 + 1) * r) pow) in
    let width : 256 * l.level + 256 - 256 * l.level ≡ 256 = omega arith in
    record {
      room = length-set l.self-inside.hashes (256 * (l.level + 1) + l.at / 256 % 256) c.root_of-root.result ∙ i.room;
      few = omega (arith, below);
      count = i.count;
      ends = ends;
      full = omega (arith, i.full, full_step (7 - l.level) (7 - (l.level + 1)) l.at (omega (arith, below)) full);
      carried = λ q are.
          let before = i.carried q are in
          let was : length q + 1 ≡ (l.at + 1) * p = omega (arith, are.count, i.ends) in
          let now : length q + 1 ≡ (l.at / 256 + 1) * 2 ^ (8 * (l.level + 1)) = omega (arith, are.count, ends) in
          let root : c.root_of-root.result ≡ level_hash g.H.TreeHash.hash (l.level + 1) (q ++ c.args.digest.now ∷ []) (l.at / 256)
          = c.root_of-root.ensures ∙ ap (λ w. tree_root g.H.TreeHash.hash (take w (drop (256 * l.level) l.self-inside.hashes))) width ∙ row_is g.H.TreeHash.hash l.self-inside.hashes q c.args.digest.now l.level l.at (omega (arith, below)) i.room was full before in
          write g.H.TreeHash.hash l.self-inside.hashes q c.args.digest.now c.root_of-root.result (l.level + 1) (l.at / 256) (omega (arith, below)) i.room now root before;
    }

pub returns-clause-tiles : goal.returns-clause-tiles
returns-clause-tiles g c = λ q are.
    let l = c.each_level in
    let i = l.invariant in
    let ends : length q + 1 ≡ (l.at + 1) * 2 ^ (8 * l.level) = omega (arith, are.count, i.ends) in
    let size : length q + 1 ≡ l.self-inside.count + 1 = omega (arith, are.count, i.count) in
    let all = finish g.H.TreeHash.hash l.self-inside.hashes q c.args.digest.now l.level l.at ends
    (λ below full. elim c.each_level-test.branch [
      | then-each_level-test+else-at-eq255 w ↦ absurd (w.if-at-eq255.false full)
      | else-each_level-test w ↦ absurd (omega (arith, w.each_level-test.false, below))
    ]) (i.carried q are) in
    subst (λ (n : ℕ). AreTilesOf g.H.TreeHash.hash (record { count = n; hashes = l.self-inside.hashes }) (q ++ c.args.digest.now ∷ [])) size all

pub returns-clause-full : goal.returns-clause-full
returns-clause-full g c =
    let l = c.each_level in
    let i = l.invariant in
    elim c.each_level-test.branch [
      | then-each_level-test+else-at-eq255 w ↦ omega (arith, i.full, full_stop (7 - l.level) l.at (λ full. w.if-at-eq255.false full))
      | else-each_level-test w ↦
          let none : 7 - l.level ≡ 0 = omega (arith, w.each_level-test.false) in
          omega (arith, i.full, ap (λ k. full_within k (l.at + 1)) none, full_none (l.at + 1))
    ]
