use Rattle.std.proofs.Common.{◌≡◌, ℕ, ◌+◌, ◌-◌, ◌*◌, ◌/◌, ◌%◌, ◌≤◌, ◌∙◌, List, length, nat_lt, slice_index, if◌then◌else◌, ap, arith, refl, sym, take}
use Rattle.std.proofs.lemmas.Nat.{mul-le}
use Rattle.sha256_lanes.specs.Eight.{lane_bytes}
use Rattle.slh_core.specs.Wots.{chain_value, value_or}
use Rattle.slh_core.proofs.Joins.{part_later}
use Rattle.slh_hash.specs.Pairs.{short_suite}
use Rattle.slh_hash.proofs.Grouped.{group_within, groups_done, length-parts}
use Rattle.slh_hash.proofs.PairRows.{ends_put, none_put, part_put}
use Rattle.slh_hash.proofs.pairs.run_eight.Goals as goal

pub loop-c-init : goal.loop-c-init
loop-c-init g c = record {
  values = none_put _ c.USIZE-n.result c.args.sig.now;
  rest = refl;
  ends = none_put _ c.USIZE-n.result c.args.ends.now;
  cost = omega arith;
}

pub loop-c-preserved : goal.loop-c-preserved
loop-c-preserved g c =
    let m = c.USIZE-n.result in
    let n = g.N.ArraySize.USIZE in
    let same : m ≡ n = c.USIZE-n.ensures in
    let K = short_suite n c.args.keyed.now.pk_seed in
    let a = c.args.adrs.now in
    let sk = c.args.sk_seed.now in
    let j = a.layer_adrs in
    let t = a.tree_adrs_low in
    let l = a.key_pair_adrs in
    let y = c.args.signer in
    let w = c.args.digits.now in
    let len = length w in
    let x = c.loop-c.c in
    let i = c.loop-c.invariant in
    let old = c.args.sig.now in
    let cur = c.loop-c.sig in
    let made = c.run_chain-values.new.place in
    let digit = slice_index w x in
    let row = c.new-row.ensures in
    let whole : length cur ≡ len * m = c.loop-c.auto.sig ∙ rw same c.requires.whole in
    let ends_whole : length c.loop-c.ends ≡ 8 * len * m = c.loop-c.auto.ends ∙ rw same c.requires.room in
    let kept = part_later n cur old x (rw same at i.rest) in
    let value = c.run_chain-values.ensures.value sk j t l row in
    let value_is : made ≡ value_or K sk j t (l + y) old w x
    = (rw same at value) ∙ ap (λ (p : List ℕ). if nat_lt digit 16 then chain_value K sk j t (l + y) x digit else p) kept in
    let put = part_put (value_or K sk j t (l + y) old w) m len x cur old made whole (omega arith) i.values i.rest (omega (arith, c.run_chain-values.auto.place)) value_is in
    let lane : ℕ → List ℕ = λ k. take m (lane_bytes c.run_chain-values.result k) in
    record {
      values = put.0;
      rest = put.1;
      ends = ends_put (λ k e. chain_value K sk j t (l + k) e 15) m len x c.loop-c.ends c.put_lanes.new.out lane ends_whole (omega arith) i.ends
          (omega (arith, c.put_lanes.auto.out)) c.put_lanes.ensures
          (λ k low. rw same (c.run_chain-values.ensures.ends sk j t l k row low));
      cost = omega (arith, c.count_steps.ensures, i.cost);
    }

pub slice_bounds-place-end : goal.slice_bounds-place-end
slice_bounds-place-end g c =
    group_within g.N.ArraySize.USIZE c.USIZE-n.result (c.loop-c.c + 1) (length c.args.digits.now) (length c.loop-c.sig) c.USIZE-n.ensures (omega (arith, c.loop-c-test.true)) (c.loop-c.auto.sig ∙ c.requires.whole)

pub overflow_mul-c-in-loop-c : goal.overflow_mul-c-in-loop-c
overflow_mul-c-in-loop-c g c =
    omega (arith, mul-le (8 * c.loop-c.c) c.USIZE-n.result 536 32 (omega (arith, c.loop-c-test.true, c.requires.few)) (omega (arith, c.USIZE-n.ensures, c.args.keyed.now.small)))

pub overflow_mul-c-in-loop-c-3 : goal.overflow_mul-c-in-loop-c-3
overflow_mul-c-in-loop-c-3 g c =
    omega (arith, mul-le (8 * c.loop-c.c + 8) c.USIZE-n.result 536 32 (omega (arith, c.loop-c-test.true, c.requires.few)) (omega (arith, c.USIZE-n.ensures, c.args.keyed.now.small)))

pub slice_bounds-put_lanes-end : goal.slice_bounds-put_lanes-end
slice_bounds-put_lanes-end g c =
    group_within g.N.ArraySize.USIZE c.USIZE-n.result (8 * c.loop-c.c + 8) (8 * length c.args.digits.now) (length c.loop-c.ends) c.USIZE-n.ensures (omega (arith, c.loop-c-test.true)) (c.loop-c.auto.ends ∙ c.requires.room)

pub put_lanes-requires : goal.put_lanes-requires
put_lanes-requires g c =
    let m = c.USIZE-n.result in
    let x = c.loop-c.c in
    let eight : 8 * x + 8 - 8 * x ≡ 8 = omega arith in
    record {
      small = omega (arith, c.USIZE-n.ensures, c.args.keyed.now.small);
      room = length-parts m (8 * x) (8 * x + 8) c.loop-c.ends (omega arith)
          (group_within g.N.ArraySize.USIZE m (8 * x + 8) (8 * length c.args.digits.now) (length c.loop-c.ends) c.USIZE-n.ensures (omega (arith, c.loop-c-test.true)) (c.loop-c.auto.ends ∙ c.requires.room))
          ∙ ap (λ q. q * m) eight;
    }

pub returns : goal.returns
returns g c =
    let n = g.N.ArraySize.USIZE in
    let m = c.USIZE-n.result in
    let same = c.USIZE-n.ensures in
    let K = short_suite n c.args.keyed.now.pk_seed in
    let a = c.args.adrs.now in
    let sk = c.args.sk_seed.now in
    let len = length c.args.digits.now in
    let x = c.loop-c.c in
    let low : x ≤ len = omega (arith, c.loop-c.auto.c-end) in
    let end : ℕ → List ℕ = λ i. chain_value K sk a.layer_adrs a.tree_adrs_low (a.key_pair_adrs + i % 8) (i / 8) 15 in
    record {
      values = groups_done (value_or K sk a.layer_adrs a.tree_adrs_low (a.key_pair_adrs + c.args.signer) c.args.sig.now c.args.digits.now) m x len c.loop-c.sig c.loop-c.invariant.values low c.loop-c-test.false
          (c.loop-c.auto.sig ∙ c.requires.whole ∙ ap (λ q. len * q) (sym same));
      ends = groups_done end m (8 * x) (8 * len) c.loop-c.ends c.loop-c.invariant.ends (omega (arith, low)) (omega (arith, c.loop-c-test.false))
          (c.loop-c.auto.ends ∙ c.requires.room ∙ ap (λ q. 8 * len * q) (sym same));
      cost = omega (arith, low, c.loop-c-test.false, c.loop-c.invariant.cost);
    }
