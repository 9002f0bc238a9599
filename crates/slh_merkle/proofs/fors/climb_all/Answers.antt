use Rattle.std.proofs.Common.{arith, add-one, ◌≡◌, ◌≤◌, ◌+◌, ◌/◌, ◌∙◌, ap, sym, refl, length, ℕ, List}
use Rattle.std.proofs.lemmas.List.{length-take-le}
use Rattle.slh_core.specs.Bytes.{part}
use Rattle.slh_core.specs.Suite.{HasLength}
use Rattle.slh_core.proofs.Joins.{joined_same, part-joined}
use Rattle.slh_merkle.specs.Checking.{checked_fors_node}
use Rattle.slh_merkle.specs.Merkle.{climb}
use Rattle.slh_merkle.proofs.CostSteps.{trees_climbed}
use Rattle.slh_merkle.proofs.Powers.{half}
use Rattle.slh_merkle.proofs.Ascents.{length-checked_fors_node, node_above}
use Rattle.slh_merkle.proofs.fors.climb_all.Goals as goal

pub loop-z-init : goal.loop-z-init
unfolding checked_fors_node climb
loop-z-init g c =
    let K = g.P.HashSuite.keyed_suite c.args.keyed.now in
    let size : K.n ≡ g.P.N.ArraySize.USIZE = ap (λ k. k.n) (g.met.P.HashSuite.keyed_suite_is c.args.keyed.now) in
    let trees = g.P.ForsSizes.K in
    let count : length c.leaf_indices.new.indices ≡ trees = c.leaf_indices.auto.indices ∙ length-take-le c.K.result _ (let few : c.K.result ≤ 64 = omega (arith, c.K.ensures, c.forest_sizes.ensures.trees_high) in few) ∙ c.K.ensures in
    record {
      indices = λ i low. let leaf = c.leaf_indices.ensures i low in omega (arith, leaf);
      values = (rw count at c.f_each.ensures.value)
          ∙ joined_same _ _ trees (λ i low. rw (c.at_node.ensures.row, c.leaf_indices.ensures i low, c.opened_secrets.ensures i low, size) refl);
      cost = omega (arith, c.f_each.ensures.step);
    }

pub loop-z-preserved : goal.loop-z-preserved
loop-z-preserved g c =
    let K = g.P.HashSuite.keyed_suite c.args.keyed.now in
    let same = g.met.P.HashSuite.keyed_suite_is c.args.keyed.now in
    let n = g.P.N.ArraySize.USIZE in
    let size : K.n ≡ n = ap (λ k. k.n) same in
    let law : HasLength K.suite K.n = rw same (g.met.P.HashSuite.lengths c.forest_sizes.ensures.n_high) in
    let a = g.P.ForsSizes.A in
    let t = c.args.adrs.now.tree_adrs_low in
    let l = c.args.adrs.now.key_pair_adrs in
    let sig = c.args.sig.now in
    let x = c.args.digits.now in
    let z = c.loop-z.z in
    let trees = g.P.ForsSizes.K in
    let below = c.loop-z.invariant in
    let node : ℕ → List ℕ = λ i. checked_fors_node K t l a sig x i z in
    let sizes : (i : ℕ) → length (node i) ≡ n = λ i. length-checked_fors_node K t l a sig x i z law ∙ size in
    record {
      indices = λ i low. c.climb_level.ensures.indices i low ∙ ap (λ y. y / 2) (below.indices i low) ∙ sym (half _ z);
      values = c.climb_level.ensures.value
          ∙ joined_same _ _ trees (λ i low.
          let own : part n c.loop-z.out i ≡ node i = ap (λ xs. part n xs i) below.values ∙ part-joined node n trees i sizes low in
          rw (own, ← size) (node_above K t l a sig x i z (z + 1) _ (add-one z) (below.indices i low)));
      cost = omega (arith, c.climb_level.ensures.cost, below.cost);
    }

pub leaf_indices-requires-clause-count : goal.leaf_indices-requires-clause-count
leaf_indices-requires-clause-count g c = c.requires.count

pub leaf_indices-requires-clause-below : goal.leaf_indices-requires-clause-below
leaf_indices-requires-clause-below g c = c.requires.below

pub leaf_indices-requires-clause-room : goal.leaf_indices-requires-clause-room
leaf_indices-requires-clause-room g c = length-take-le c.K.result _ (let few : c.K.result ≤ 64 = omega (arith, c.K.ensures, c.forest_sizes.ensures.trees_high) in few) ∙ c.K.ensures

pub opened_secrets-requires-clause-whole : goal.opened_secrets-requires-clause-whole
opened_secrets-requires-clause-whole g c = c.requires.whole

pub opened_secrets-requires-clause-room : goal.opened_secrets-requires-clause-room
opened_secrets-requires-clause-room g c = c.requires.room

pub f_each-requires-clause-small : goal.f_each-requires-clause-small
f_each-requires-clause-small g c = c.forest_sizes.ensures.n_high

pub f_each-requires-clause-room : goal.f_each-requires-clause-room
f_each-requires-clause-room g c =
    let count : length c.leaf_indices.new.indices ≡ g.P.ForsSizes.K = c.leaf_indices.auto.indices ∙ length-take-le c.K.result _ (let few : c.K.result ≤ 64 = omega (arith, c.K.ensures, c.forest_sizes.ensures.trees_high) in few) ∙ c.K.ensures in
    c.opened_secrets.auto.out ∙ rw count c.requires.room

pub climb_level-requires-clause-count : goal.climb_level-requires-clause-count
climb_level-requires-clause-count g c = c.loop-z.auto.indices ∙ c.leaf_indices.auto.indices ∙ length-take-le c.K.result _ (let few : c.K.result ≤ 64 = omega (arith, c.K.ensures, c.forest_sizes.ensures.trees_high) in few) ∙ c.K.ensures

pub climb_level-requires-clause-height : goal.climb_level-requires-clause-height
climb_level-requires-clause-height g c = omega arith

pub climb_level-requires-clause-whole : goal.climb_level-requires-clause-whole
climb_level-requires-clause-whole g c = c.requires.whole

pub climb_level-requires-clause-room : goal.climb_level-requires-clause-room
climb_level-requires-clause-room g c = c.loop-z.auto.out ∙ c.f_each.auto.values ∙ c.opened_secrets.auto.out ∙ c.requires.room

pub returns : goal.returns
returns g c =
    let last : c.loop-z.z ≡ g.P.ForsSizes.A = omega arith in
    let count : length c.leaf_indices.new.indices ≡ g.P.ForsSizes.K = c.leaf_indices.auto.indices ∙ length-take-le c.K.result _ (let few : c.K.result ≤ 64 = omega (arith, c.K.ensures, c.forest_sizes.ensures.trees_high) in few) ∙ c.K.ensures in
    record {
      value = rw last at c.loop-z.invariant.values;
      cost = omega (arith, rw last at c.loop-z.invariant.cost, rw count at c.f_each.ensures.step, trees_climbed g.P.ForsSizes.K g.P.ForsSizes.A);
    }
