use Rattle.std.proofs.Common.{rules, arith, ◌≡◌, ◌∙◌, ◌+◌, ◌-◌, ◌*◌, ◌<◌, ◌≤◌, ◌++◌, length, refl}
use Rattle.std.proofs.lemmas.Nat.{mul-le}
use Rattle.std.proofs.lemmas.Slice.{take-put_mid}
use Rattle.slh_core.specs.Bytes.{joined}
use Rattle.slh_core.proofs.Joins.{joined_more}
use Rattle.slh_merkle.specs.Fors.{fors_opened, opened_leaves}
use Rattle.slh_core.specs.Costs.{auth_path_cost, fors_leaf_cost}
use Rattle.slh_merkle.proofs.CostSteps.{one_more}
use Rattle.slh_merkle.proofs.Layers.{part_fits}
use Rattle.slh_merkle.proofs.Rows.{length-cut, none_joined, whole_front}
use Rattle.slh_merkle.proofs.fors.open_all.Goals as goal

pub overflow_mul-opened : goal.overflow_mul-opened
overflow_mul-opened g c =
    let size = c.opened_len-size.result in
    let most = mul-le (c.loop-i.i + 1) size 64 544 (omega (arith, c.forest_sizes.ensures.trees_high)) c.opened_len-size.ensures.small in
    let small : c.loop-i.i * size < 18446744073709551616 = omega (arith, most) in search rules

pub overflow_mul-opened-in-loop-i : goal.overflow_mul-opened-in-loop-i
overflow_mul-opened-in-loop-i g c =
    let size = c.opened_len-size.result in
    let most = mul-le (c.loop-i.i + 1) size 64 544 (omega (arith, c.forest_sizes.ensures.trees_high)) c.opened_len-size.ensures.small in
    let small : (c.loop-i.i + 1) * size < 18446744073709551616 = omega (arith, most) in search rules

pub loop-i-init : goal.loop-i-init
loop-i-init g c = record {
  values = none_joined _ _ _;
  cost = omega arith;
}

pub slice_bounds-opened-end : goal.slice_bounds-opened-end
slice_bounds-opened-end g c =
    let whole : length c.args.out.now ≡ g.P.ForsSizes.K * c.opened_len-size.result = rw c.opened_len-size.ensures.value c.requires.room in
    part_fits c.loop-i.i g.P.ForsSizes.K c.opened_len-size.result _ (omega arith) (c.loop-i.auto.out ∙ whole)

pub open_secret-requires-clause-leaf : goal.open_secret-requires-clause-leaf
open_secret-requires-clause-leaf g c = c.index_of-y.ensures.below

pub open_secret-requires-clause-room : goal.open_secret-requires-clause-room
open_secret-requires-clause-room g c =
    let at = c.loop-i.i in
    let size = c.opened_len-size.result in
    let whole : length c.args.out.now ≡ g.P.ForsSizes.K * size = rw c.opened_len-size.ensures.value c.requires.room in
    let next : (at + 1) * size ≡ at * size + size = omega arith in
    length-cut (at * size) ((at + 1) * size) size c.loop-i.out next (part_fits at g.P.ForsSizes.K size _ (omega arith) (c.loop-i.auto.out ∙ whole)) ∙ c.opened_len-size.ensures.value

pub loop-i-preserved : goal.loop-i-preserved
unfolding fors_opened
loop-i-preserved g c =
    let K = g.P.HashSuite.keyed_suite c.args.keyed.now in
    let opened = fors_opened K c.args.sk_seed.now c.args.adrs.now.tree_adrs_low c.args.adrs.now.key_pair_adrs g.P.ForsSizes.A c.args.digits.now in
    let i = c.loop-i.invariant in
    let size = c.opened_len-size.result in
    let whole : length c.args.out.now ≡ g.P.ForsSizes.K * size = rw c.opened_len-size.ensures.value c.requires.room in
    let fits : (c.loop-i.i + 1) * size ≤ length c.args.out.now = part_fits c.loop-i.i g.P.ForsSizes.K size (length c.args.out.now) (omega arith) whole in
    let next : (c.loop-i.i + 1) * size ≡ c.loop-i.i * size + length c.open_secret.new.out = omega arith in
    record {
      values = rw (take-put_mid (c.loop-i.i * size) ((c.loop-i.i + 1) * size - c.loop-i.i * size) c.loop-i.out c.open_secret.new.out ((c.loop-i.i + 1) * size) next (omega arith), i.values, joined_more, c.open_secret.ensures.value, c.index_of-y.ensures.value)
          (refl {a = joined opened c.loop-i.i ++ opened c.loop-i.i});
      cost = omega (arith, one_more c.loop-i.i (1 + auth_path_cost fors_leaf_cost g.P.ForsSizes.A), i.cost, c.open_secret.ensures.cost);
    }

pub returns : goal.returns
unfolding opened_leaves
returns g c =
    let k = g.P.ForsSizes.K in
    let size = c.opened_len-size.result in
    let last : c.loop-i.i ≡ k = omega arith in
    let whole : length c.loop-i.out ≡ k * size = rw c.opened_len-size.ensures.value (c.loop-i.auto.out ∙ c.requires.room) in
    record {
      value = rw last at (whole_front size k c.loop-i.i c.loop-i.out _ last whole c.loop-i.invariant.values);
      cost = rw last at c.loop-i.invariant.cost;
    }

pub index_of-y-requires-clause-tree : goal.index_of-y-requires-clause-tree
index_of-y-requires-clause-tree g c = omega arith

pub index_of-y-requires-clause-digit : goal.index_of-y-requires-clause-digit
index_of-y-requires-clause-digit g c = c.requires.below c.loop-i.i c.loop-i-test.true
