use Rattle.std.proofs.Common.{◌≡◌, ◌∙◌, ◌≤◌, ◌+◌, ◌-◌, ◌*◌, ap, arith, length, rules, ◌<◌}
use Rattle.std.proofs.lemmas.Slice.{take-put_mid}
use Rattle.slh_merkle.specs.Fors.{fors_leaf, fors_secret}
use Rattle.slh_merkle.proofs.Layers.{part_fits}
use Rattle.slh_merkle.proofs.Rows.{eights_few, length-cut, none_joined, rows_joined, whole_front}
use Rattle.slh_merkle.proofs.fors.ForsTreeLeaves.write_eights.Goals as goal

pub overflow_mul-leaves : goal.overflow_mul-leaves
overflow_mul-leaves g c =
    let most = eights_few c.loop-g.g c.args.groups c.USIZE-size.result (omega (arith, c.requires.inside)) c.loop-g-test.true (omega arith) in
    let small : c.loop-g.g * (8 * c.USIZE-size.result) < 18446744073709551616 = omega (arith, most) in search rules

pub overflow_mul-leaves-in-loop-g : goal.overflow_mul-leaves-in-loop-g
overflow_mul-leaves-in-loop-g g c =
    let most = eights_few c.loop-g.g c.args.groups c.USIZE-size.result (omega (arith, c.requires.inside)) c.loop-g-test.true (omega arith) in
    let small : (c.loop-g.g + 1) * (8 * c.USIZE-size.result) < 18446744073709551616 = omega (arith, most) in search rules

pub loop-g-init : goal.loop-g-init
loop-g-init g c = record {
  leaves = none_joined _ _ _;
  cost = omega arith;
}

pub loop-g-preserved : goal.loop-g-preserved
unfolding fors_leaf fors_secret
loop-g-preserved g c =
    let K = g.P.HashSuite.keyed_suite c.args.keyed.now in
    let leaf = fors_leaf K c.args.sk_seed.now c.args.self.now.tree_adrs_low c.args.self.now.key_pair_adrs in
    let at = c.loop-g.g in
    let size = 8 * c.USIZE-size.result in
    let whole : length c.args.out.now ≡ c.args.groups * size = rw c.USIZE-size.ensures c.requires.room in
    let fits : (at + 1) * size ≤ length c.args.out.now = part_fits at c.args.groups size (length c.args.out.now) c.loop-g-test.true whole in
    let next : (at + 1) * size ≡ at * size + length c.leaves_eight.new.out = omega (arith, c.leaves_eight.auto.out) in
    let more : 8 * (at + 1) ≡ 8 * at + 8 = omega arith in
    record {
      leaves = rw (take-put_mid (at * size) ((at + 1) * size - at * size) c.loop-g.out c.leaves_eight.new.out ((at + 1) * size) next (omega arith), c.loop-g.invariant.leaves, c.leaves_eight.ensures.value)
          (rows_joined leaf c.args.first (8 * at) 8 (8 * (at + 1)) more);
      cost = omega (arith, c.leaves_eight.ensures.cost, c.loop-g.invariant.cost);
    }

pub returns : goal.returns
returns g c =
    let size = 8 * c.USIZE-size.result in
    let last : c.loop-g.g ≡ c.args.groups = omega arith in
    let whole : length c.loop-g.out ≡ c.args.groups * size = rw c.USIZE-size.ensures (c.loop-g.auto.out ∙ c.requires.room) in
    record {
      leaves = rw last at (whole_front size c.args.groups c.loop-g.g c.loop-g.out _ last whole c.loop-g.invariant.leaves);
      cost = rw last at c.loop-g.invariant.cost;
    }

pub slice_bounds-leaves-end : goal.slice_bounds-leaves-end
slice_bounds-leaves-end g c =
    part_fits c.loop-g.g c.args.groups (8 * c.USIZE-size.result) _ c.loop-g-test.true (rw c.USIZE-size.ensures (c.loop-g.auto.out ∙ c.requires.room))

pub leaves_eight-requires-clause-small : goal.leaves_eight-requires-clause-small
leaves_eight-requires-clause-small g c = c.forest_sizes.ensures.n_high

pub leaves_eight-requires-clause-inside : goal.leaves_eight-requires-clause-inside
leaves_eight-requires-clause-inside g c = omega (arith, c.requires.inside)

pub leaves_eight-requires-clause-room : goal.leaves_eight-requires-clause-room
leaves_eight-requires-clause-room g c =
    let at = c.loop-g.g in
    let size = 8 * c.USIZE-size.result in
    let whole : length c.loop-g.out ≡ c.args.groups * size = rw c.USIZE-size.ensures (c.loop-g.auto.out ∙ c.requires.room) in
    let next : (at + 1) * size ≡ at * size + size = omega arith in
    length-cut (at * size) ((at + 1) * size) size c.loop-g.out next (part_fits at c.args.groups size _ c.loop-g-test.true whole) ∙ ap (λ n. 8 * n) c.USIZE-size.ensures
