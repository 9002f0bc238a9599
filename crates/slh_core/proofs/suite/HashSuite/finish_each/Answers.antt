use Rattle.std.proofs.Common.{◌≡◌, ◌∙◌, ◌*◌, drop, length-append, length-drop, length-take, take, ◌≤◌, sym, ℕ, ap, arith, length}
use Rattle.slh_core.proofs.ActiveSteps.{count_below-all, in_order, lacks-all, lacks-next, lacks-zero, nothing_held, held_next, reached_below, checked_chain-start}
use Rattle.std.proofs.lemmas.List.{length-take-le}
use Rattle.std.proofs.lemmas.Nat.{mul-le}
use Rattle.slh_core.specs.Bytes.{part}
use Rattle.slh_core.specs.Parameters.{chain_count}
use Rattle.slh_core.specs.Suite.{HasLength}
use Rattle.slh_core.specs.Wots.{checked_chain, checked_ends}
use Rattle.slh_core.proofs.suite.HashSuite.finish_each.Goals as goal

pub loop-q-init : goal.loop-q-init
loop-q-init g c = record {
  active = c.new-active.ensures.active c.args.digits.now;
  room = search;
  values = nothing_held _ _ _ _ c.new-active.ensures.none;
  cost = omega (arith, lacks-zero c.args.digits.now);
}

pub loop-q-preserved : goal.loop-q-preserved
loop-q-preserved g c =
    let K = g.Self.HashSuite.keyed_suite c.args.keyed.now in
    let same = g.met.Self.HashSuite.keyed_suite_is c.args.keyed.now in
    let size : K.n ≡ g.Self.N.ArraySize.USIZE = ap (λ k. k.n) same in
    let law : HasLength K.suite K.n = rw same (g.met.Self.HashSuite.lengths c.requires.small) in
    let a = c.args.adrs.now in
    let w = c.args.digits.now in
    let sig = c.args.sig.now in
    let q = c.loop-q.q in
    let m = c.enter.new.self.count in
    let i = c.loop-q.invariant in
    let value = λ (k : ℕ). checked_chain K a.layer_adrs a.tree_adrs_low a.key_pair_adrs sig w k q in
    let held = c.enter.ensures.values value (λ k is. checked_chain-start K a.layer_adrs a.tree_adrs_low a.key_pair_adrs sig w q k is ∙ ap (λ s. part s sig k) (size ∙ sym c.USIZE-n.ensures)) i.values in
    let few : m ≤ length c.enter.new.self.numbers = omega (arith, c.enter.ensures.few, c.enter.ensures.active.numbers_len, c.requires.count, c.requires.small) in
    let shown : length (take m c.enter.new.self.numbers) ≡ m = omega (arith, length-take m c.enter.new.self.numbers, few) in
    record {
      active = c.enter.ensures.active;
      room = omega (arith, c.f_each.auto.values, length-append c.f_each.new.values (drop (m * c.USIZE-n.result) c.enter.new.values), length-drop (m * c.USIZE-n.result) c.enter.new.values, length-take (m * c.USIZE-n.result) c.enter.new.values, c.enter.auto.values, i.room);
      values = held_next K a.layer_adrs a.tree_adrs_low a.key_pair_adrs sig w c.USIZE-n.result q m c.enter.new.self.numbers c.enter.new.values c.f_each.new.values law (size ∙ sym c.USIZE-n.ensures) (rw c.USIZE-n.ensures c.requires.whole)
          c.enter.ensures.active.number (reached_below q w c.enter.new.self c.enter.ensures.active) held
          (rw (shown, c.at_step-at.ensures, c.from.ensures, ← c.USIZE-n.ensures) at c.f_each.ensures.value);
      cost = omega (arith, i.cost, lacks-next q w, c.enter.ensures.counted, c.f_each.ensures.step, shown);
    }

pub slice_bounds-row-end : goal.slice_bounds-row-end
slice_bounds-row-end g c =
    let m = c.enter.new.self.count in
    let most = mul-le m c.USIZE-n.result 67 32 (omega (arith, c.enter.ensures.few, c.requires.count, c.requires.small)) (omega (arith, c.USIZE-n.ensures, c.requires.small)) in
    sym (length-take-le (m * c.USIZE-n.result) c.enter.new.values (omega (arith, most, c.enter.auto.values, c.loop-q.invariant.room)))

pub f_each-requires-clause-room : goal.f_each-requires-clause-room
f_each-requires-clause-room g c =
    let m = c.enter.new.self.count in
    let few : m ≤ length c.enter.new.self.numbers = omega (arith, c.enter.ensures.few, c.enter.ensures.active.numbers_len, c.requires.count, c.requires.small) in
    let most = mul-le m c.USIZE-n.result 67 32 (omega (arith, c.enter.ensures.few, c.requires.count, c.requires.small)) (omega (arith, c.USIZE-n.ensures, c.requires.small)) in
    rw (length-take-le m c.enter.new.self.numbers few, ← c.USIZE-n.ensures)
    (length-take-le (m * c.USIZE-n.result) c.enter.new.values (omega (arith, most, c.enter.auto.values, c.loop-q.invariant.room)))

pub write_to-requires-clause-whole : goal.write_to-requires-clause-whole
write_to-requires-clause-whole g c =
    let count : c.enter-2.new.self.count ≡ length c.args.digits.now = c.enter-2.ensures.counted ∙ count_below-all 16 c.args.digits.now c.requires.below in
    rw (count, c.USIZE-n.ensures) c.requires.room

pub returns-clause-value : goal.returns-clause-value
unfolding checked_ends
returns-clause-value g c =
    let K = g.Self.HashSuite.keyed_suite c.args.keyed.now in
    let same = g.met.Self.HashSuite.keyed_suite_is c.args.keyed.now in
    let size : K.n ≡ g.Self.N.ArraySize.USIZE = ap (λ k. k.n) same in
    let law : HasLength K.suite K.n = rw same (g.met.Self.HashSuite.lengths c.requires.small) in
    let a = c.args.adrs.now in
    let w = c.args.digits.now in
    let sig = c.args.sig.now in
    let last : c.loop-q.q ≡ 15 = omega (arith, c.loop-q-test.false, c.loop-q.auto.q-end) in
    let i = c.loop-q.invariant in
    let count : c.enter-2.new.self.count ≡ length w = c.enter-2.ensures.counted ∙ count_below-all 16 w c.requires.below in
    let n = c.USIZE-n.result in
    let chains : length w ≡ chain_count K.n = rw size c.requires.count in
    let value = λ (k : ℕ). checked_chain K a.layer_adrs a.tree_adrs_low a.key_pair_adrs sig w k 15 in
    let held = c.enter-2.ensures.values value (λ k is. checked_chain-start K a.layer_adrs a.tree_adrs_low a.key_pair_adrs sig w 15 k is ∙ ap (λ s. part s sig k) (size ∙ sym c.USIZE-n.ensures)) (rw last at i.values) in
    let room : chain_count K.n * n ≤ 67 * 32 = mul-le (chain_count K.n) n 67 32 (omega (arith, size, c.requires.small)) (omega (arith, c.USIZE-n.ensures, c.requires.small)) in
    in_order K a.layer_adrs a.tree_adrs_low a.key_pair_adrs sig w n 15 (chain_count K.n) c.enter-2.new.self c.enter-2.new.values c.write_to.new.out law (size ∙ sym c.USIZE-n.ensures) (rw c.USIZE-n.ensures c.requires.whole) c.enter-2.ensures.active (count ∙ chains) chains
    (omega (arith, room, c.enter-2.auto.values, i.room))
    (λ k low. omega (arith, c.requires.below k (omega (arith, low, chains))))
    held c.write_to.ensures

pub returns-clause-cost : goal.returns-clause-cost
returns-clause-cost g c =
    let last : c.loop-q.q ≡ 15 = omega (arith, c.loop-q-test.false, c.loop-q.auto.q-end) in
    let lacks = lacks-all c.args.digits.now c.requires.below in
    let cost = c.loop-q.invariant.cost in
    omega (arith, lacks, (rw last at cost))
