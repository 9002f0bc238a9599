use Rattle.std.proofs.Common.{rules, arith, ◌≡◌, ◌+◌, ◌-◌, ◌*◌, ◌/◌, ◌%◌, ◌^◌, ◌<◌, ◌≤◌, ap, ◌∙◌, refl}
use Rattle.std.specs.Prelude.{count_ones}
use Rattle.slh_merkle.specs.Merkle.{merkle}
use Rattle.slh_merkle.specs.Treehash.{HoldsNodes}
use Rattle.slh_merkle.proofs.Powers.{half}
use Rattle.slh_merkle.proofs.TreehashSteps.{height_small, height_below, ones_odd, ones_even, ones_shifted, bit_below, pair_up, index_at, odd_index, carried_up, HoldsNodes-more}
use Rattle.slh_merkle.proofs.treehash.push_node.Goals as goal

pub loop-bits-init : goal.loop-bits-init
loop-bits-init g c = record {
  bits = omega arith;
  index = omega arith;
  carried = omega arith;
  value = λ leaves i z e below is holds.
      let bottom : c.args.base + 0 ≡ c.args.base = omega arith in rw bottom (c.copy-current.ensures ∙ is);
  cost = omega arith;
}

pub node_of-left-requires-clause-fits : goal.node_of-left-requires-clause-fits
node_of-left-requires-clause-fits g c =
    omega (arith, height_small c.args.q c.loop-bits.h c.loop-bits.bits c.requires.few c.loop-bits.invariant.carried)

pub overflow_add-h : goal.overflow_add-h
overflow_add-h g c =
    let high = height_small c.args.q c.loop-bits.h c.loop-bits.bits c.requires.few c.loop-bits.invariant.carried in
    let small : c.loop-bits.h + 1 < 18446744073709551616 = omega arith in search rules

pub overflow_cast-height : goal.overflow_cast-height
overflow_cast-height g c =
    let high = height_small c.args.q c.loop-bits.h c.loop-bits.bits c.requires.few c.loop-bits.invariant.carried in
    let small : c.loop-bits.h + 1 < 4294967296 = omega arith in search rules

pub overflow_add-height : goal.overflow_add-height
overflow_add-height g c =
    let high = height_small c.args.q c.loop-bits.h c.loop-bits.bits c.requires.few c.loop-bits.invariant.carried in
    let small : c.args.base + (c.loop-bits.h + 1) < 4294967296 = omega arith in search rules

pub store_node-requires : goal.store_node-requires
store_node-requires g c = record {
  fits = omega (arith, height_small c.args.q c.loop-bits.h c.loop-bits.bits c.requires.few c.loop-bits.invariant.carried);
}

pub loop-bits-preserved : goal.loop-bits-preserved
unfolding HoldsNodes
loop-bits-preserved g c =
    let K = g.P.HashSuite.keyed_suite c.args.keyed.now in
    let B = g.A.NodeAddress.place c.args.adrs.now in
    let i = c.loop-bits.invariant in
    let h = c.loop-bits.h in
    let bit : c.args.q / 2 ^ h % 2 ≡ 1 = rw i.bits at c.loop-bits-test.true in
    let last : c.loop-bits.bits ≡ 2 * (c.loop-bits.bits / 2) + 1 = omega arith in
    let fewer : count_ones c.loop-bits.bits ≡ count_ones (c.loop-bits.bits / 2) + 1 = ap (λ b. count_ones b) last ∙ ones_odd (c.loop-bits.bits / 2) in
    record {
      bits = rw (half c.args.q h, ← i.bits) refl;
      index = rw (half c.args.index h, ← i.index) refl;
      carried = carried_up c.args.q h c.loop-bits.bits c.loop-bits-test.true i.carried;
      value = λ leaves at z e below is holds.
          let inside : h < z = bit_below c.args.q z h below bit in
          let odd : c.loop-bits.index % 2 ≡ 1 = rw i.index (odd_index at z c.args.q h c.args.index e inside bit) in
          let place : at * 2 ^ (z - h) + c.args.q / 2 ^ h ≡ c.loop-bits.index = rw (i.index, e, index_at at z c.args.q h (omega arith)) refl in
          let left : c.node_of-left.result ≡ merkle K B leaves (c.args.base + h) (c.loop-bits.index - 1) = rw (c.node_of-left.ensures, holds h bit, place) refl in
          let above : c.args.base + (h + 1) ≡ c.args.base + h + 1 = omega arith in
          rw (c.parent-current.ensures.value, above)
          (pair_up K B leaves (c.args.base + h) c.loop-bits.index c.node_of-left.result c.loop-bits.current odd left (i.value leaves at z e below is holds));
      cost = omega (arith, c.parent-current.ensures.cost, i.cost);
    }

pub returns-clause-holds : goal.returns-clause-holds
returns-clause-holds g c = λ leaves at z e below is holds.
    let K = g.P.HashSuite.keyed_suite c.args.keyed.now in
    let B = g.A.NodeAddress.place c.args.adrs.now in
    let i = c.loop-bits.invariant in
    let h = c.loop-bits.h in
    let inside : h ≤ z = height_below c.args.q z h c.loop-bits.bits below i.carried in
    let place : c.loop-bits.index ≡ at * 2 ^ (z - h) + c.loop-bits.bits = rw (i.index, i.bits, e, index_at at z c.args.q h inside) refl in
    HoldsNodes-more g.P.N.ArraySize.USIZE (λ k. merkle K B leaves (c.args.base + k)) z at c.args.q h c.loop-bits.bits c.args.store.now c.store_node.new.store
    i.bits c.loop-bits-test.false i.carried holds
    (rw (c.store_node.ensures.there, i.value leaves at z e below is holds, place) (refl {a = merkle K B leaves (c.args.base + h) (at * 2 ^ (z - h) + c.loop-bits.bits)}))
    c.store_node.ensures.others

pub returns-clause-cost : goal.returns-clause-cost
returns-clause-cost g c =
    let i = c.loop-bits.invariant in
    let even : c.loop-bits.bits ≡ 2 * (c.loop-bits.bits / 2) = omega (arith, c.loop-bits-test.false) in
    let low : count_ones c.loop-bits.bits ≡ count_ones (c.loop-bits.bits / 2) = ap (λ b. count_ones b) even ∙ ones_even (c.loop-bits.bits / 2) in
    let next : c.args.q + 1 ≡ 2 ^ c.loop-bits.h * (2 * (c.loop-bits.bits / 2) + 1) = rw even at i.carried in
    let more : count_ones (c.args.q + 1) ≡ count_ones (c.loop-bits.bits / 2) + 1 = ap (λ b. count_ones b) next ∙ ones_shifted c.loop-bits.h (2 * (c.loop-bits.bits / 2) + 1) ∙ ones_odd (c.loop-bits.bits / 2) in
    omega (arith, i.cost)
