use Rattle.std.proofs.Common.{◌≡◌, ◌≢◌, ◌<◌, ◌≤◌, ◌+◌, ◌-◌, ◌*◌, ◌/◌, ◌%◌, ◌∙◌, ℕ, ap, arith, inl, inr, length, refl, slice_index, rules}
use Rattle.std.proofs.lemmas.Bool.{cases_eq}
use Rattle.std.proofs.lemmas.Slice.{take-put_mid}
use Rattle.slh_core.specs.Costs.{wots_pk_cost}
use Rattle.slh_core.specs.Wots.{wots_pk}
use Rattle.slh_core.proofs.Chains.{values_none}
use Rattle.slh_merkle.proofs.CostSteps.{eight_more}
use Rattle.slh_merkle.proofs.Layers.{part_fits}
use Rattle.slh_merkle.proofs.Rows.{eights_few, length-cut, none_joined, rows_joined, whole_front}
use Rattle.slh_merkle.proofs.xmss.leaves_by_eight.Goals.{then-signer-g, else-signer-g}
use Rattle.slh_merkle.proofs.xmss.leaves_by_eight.Goals as goal

pub overflow_mul-keys : goal.overflow_mul-keys
overflow_mul-keys g c =
    let most = eights_few c.loop-g.g c.args.groups c.USIZE-size.result (omega (arith, c.requires.inside)) c.loop-g-test.true (omega arith) in
    let small : c.loop-g.g * (8 * c.USIZE-size.result) < 18446744073709551616 = omega (arith, most) in search rules

pub overflow_mul-keys-in-loop-g : goal.overflow_mul-keys-in-loop-g
overflow_mul-keys-in-loop-g g c =
    let most = eights_few c.loop-g.g c.args.groups c.USIZE-size.result (omega (arith, c.requires.inside)) c.loop-g-test.true (omega arith) in
    let small : (c.loop-g.g + 1) * (8 * c.USIZE-size.result) < 18446744073709551616 = omega (arith, most) in search rules

pub loop-g-init : goal.loop-g-init
loop-g-init g c = record {
  leaves = none_joined _ _ _;
  before = λ early. refl;
  after = λ late. absurd (omega (arith, late));
  cost = omega arith;
}

pub loop-g-preserved : goal.loop-g-preserved
loop-g-preserved g c =
    let K = g.P.HashSuite.keyed_suite c.args.keyed.now in
    let N = g.P.N.ArraySize.USIZE in
    let bytes : K.n ≡ N = ap (λ k. k.n) (g.met.P.HashSuite.keyed_suite_is c.args.keyed.now) in
    let sk = c.args.sk_seed.now in
    let j = c.args.adrs.now.layer_adrs in
    let t = c.args.adrs.now.tree_adrs_low in
    let first = c.args.first in
    let y = c.args.signer in
    let at = c.loop-g.g in
    let i = c.loop-g.invariant in
    let size = 8 * c.USIZE-size.result in
    let w = c.if-signer-g.asked.now in
    let len = length c.args.digits.now in
    let none = c.no_digits-none in
    let whole : length c.args.out.now ≡ c.args.groups * size = rw c.USIZE-size.ensures c.requires.room in
    let fits : (at + 1) * size ≤ length c.args.out.now = part_fits at c.args.groups size (length c.args.out.now) c.loop-g-test.true whole in
    let next : (at + 1) * size ≡ at * size + length c.pairs_eight.new.out = omega (arith, c.pairs_eight.auto.out) in
    let more : 8 * (at + 1) ≡ 8 * at + 8 = omega arith in
    let long : length w ≡ len = elim c.if-signer-g.branch [
      | then-signer-g v ↦ rw v.asked-is refl
      | else-signer-g v ↦ rw v.asked-is none.ensures.len
    ] in
    let room : length c.loop-g.sig ≡ len * K.n = rw bytes (c.loop-g.auto.sig ∙ c.requires.whole) in
    let made = rw (c.key_pair_of-at.ensures, long) at c.pairs_eight.ensures.values in
    let kept : y / 8 ≢ at → c.pairs_eight.new.sig ≡ c.loop-g.sig = λ other. elim c.if-signer-g.branch [
      | then-signer-g v ↦ absurd (omega (arith, v.if-signer-g.true, other))
      | else-signer-g v ↦ (let blank : (q : ℕ) → q < len → slice_index w q ≡ 16 = rw v.asked-is none.ensures.none in
          made ∙ values_none K sk j t (first + 8 * at + y % 8) len c.loop-g.sig w room blank)
    ] in
    let signed : y / 8 ≡ at → w ≡ c.args.digits.now = λ same. elim c.if-signer-g.branch [
      | then-signer-g v ↦ rw v.asked-is refl
      | else-signer-g v ↦ absurd (omega (arith, v.if-signer-g.false, same))
    ] in
    record {
      leaves = rw (take-put_mid (at * size) ((at + 1) * size - at * size) c.loop-g.out c.pairs_eight.new.out ((at + 1) * size) next (omega arith), i.leaves, c.pairs_eight.ensures.keys, c.key_pair_of-at.ensures)
          (rows_joined (wots_pk K sk j t) first (8 * at) 8 (8 * (at + 1)) more);
      before = λ low. kept (omega (arith, low)) ∙ i.before (omega (arith, low));
      after = λ met. elim (cases_eq (y / 8) at) [
        | inl same ↦ (let place : first + 8 * at + y % 8 ≡ first + y = omega (arith, same) in
            rw (signed same, i.before (omega (arith, same)), place) at made)
        | inr other ↦ kept other ∙ i.after (omega (arith, met, other))
      ];
      cost = c.pairs_eight.ensures.cost ∙ rw (i.cost, long, c.requires.count) (eight_more c.args.steps.now at (wots_pk_cost g.P.WotsSizes.WOTS_SIG_LEN));
    }

pub returns : goal.returns
returns g c =
    let size = 8 * c.USIZE-size.result in
    let last : c.loop-g.g ≡ c.args.groups = omega arith in
    let whole : length c.loop-g.out ≡ c.args.groups * size = rw c.USIZE-size.ensures (c.loop-g.auto.out ∙ c.requires.room) in
    let i = c.loop-g.invariant in
    record {
      leaves = rw last at (whole_front size c.args.groups c.loop-g.g c.loop-g.out _ last whole i.leaves);
      values = λ met. i.after (omega (arith, met));
      kept = λ low. i.before (omega (arith, low));
      cost = rw last at i.cost;
    }

pub slice_bounds-keys-end : goal.slice_bounds-keys-end
slice_bounds-keys-end g c =
    let size = 8 * c.USIZE-size.result in
    let whole : length c.args.out.now ≡ c.args.groups * size = rw c.USIZE-size.ensures c.requires.room in
    part_fits c.loop-g.g c.args.groups size _ c.loop-g-test.true (c.loop-g.auto.out ∙ whole)

pub pairs_eight-requires-clause-small : goal.pairs_eight-requires-clause-small
pairs_eight-requires-clause-small g c = c.tree_sizes.ensures.n_high

pub pairs_eight-requires-clause-signer : goal.pairs_eight-requires-clause-signer
pairs_eight-requires-clause-signer g c = omega arith

pub pairs_eight-requires-clause-inside : goal.pairs_eight-requires-clause-inside
pairs_eight-requires-clause-inside g c = rw c.key_pair_of-at.ensures (omega (arith, c.requires.inside))

pub pairs_eight-requires-clause-count : goal.pairs_eight-requires-clause-count
pairs_eight-requires-clause-count g c =
    let long : length c.if-signer-g.asked.now ≡ length c.args.digits.now = elim c.if-signer-g.branch [
      | then-signer-g v ↦ rw v.asked-is refl
      | else-signer-g v ↦ rw v.asked-is c.no_digits-none.ensures.len
    ] in
    long ∙ c.requires.count ∙ c.tree_sizes.ensures.signature_len

pub pairs_eight-requires-clause-whole : goal.pairs_eight-requires-clause-whole
pairs_eight-requires-clause-whole g c =
    let long : length c.if-signer-g.asked.now ≡ length c.args.digits.now = elim c.if-signer-g.branch [
      | then-signer-g v ↦ rw v.asked-is refl
      | else-signer-g v ↦ rw v.asked-is c.no_digits-none.ensures.len
    ] in
    rw long (c.loop-g.auto.sig ∙ c.requires.whole)

pub pairs_eight-requires-clause-room : goal.pairs_eight-requires-clause-room
pairs_eight-requires-clause-room g c =
    let at = c.loop-g.g in
    let size = 8 * c.USIZE-size.result in
    let rows : length c.loop-g.out ≡ c.args.groups * size = rw c.USIZE-size.ensures (c.loop-g.auto.out ∙ c.requires.room) in
    let next : (at + 1) * size ≡ at * size + size = omega arith in
    length-cut (at * size) ((at + 1) * size) size c.loop-g.out next (part_fits at c.args.groups size _ c.loop-g-test.true rows) ∙ ap (λ n. 8 * n) c.USIZE-size.ensures
