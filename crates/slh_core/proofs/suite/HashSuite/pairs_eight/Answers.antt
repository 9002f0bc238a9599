use Rattle.std.proofs.Common.{◌≡◌, ◌≢◌, ◌<◌, ◌≤◌, ◌+◌, ◌*◌, ◌∙◌, ℕ, [], ap, arith, rules, inl, inr, length, refl, slice_index, sym}
use Rattle.std.proofs.lemmas.Bool.{cases_lt}
use Rattle.std.proofs.lemmas.List.{length-replicate, length-take, length-take-le}
use Rattle.std.proofs.lemmas.Nat.{mul-le}
use Rattle.slh_core.specs.Bytes.{joined}
use Rattle.slh_core.specs.Suite.{HasLength}
use Rattle.slh_core.specs.Parameters.{chain_count}
use Rattle.slh_core.specs.Wots.{wots_pk}
use Rattle.slh_core.proofs.Chains.{key_of_ends, values_none}
use Rattle.slh_core.proofs.Joins.{joined_more, whole_joined}
use Rattle.slh_core.proofs.suite.HashSuite.pairs_eight.Goals.{then-k-signer, else-k-signer}
use Rattle.slh_core.proofs.suite.HashSuite.pairs_eight.Goals as goal

pub overflow_mul-store : goal.overflow_mul-store
overflow_mul-store g c =
    let most = mul-le (length c.args.digits.now) c.USIZE-n.result 67 32 (omega (arith, c.requires.count, c.requires.small)) (omega (arith, c.USIZE-n.ensures, c.requires.small)) in
    let small : length c.args.digits.now * c.USIZE-n.result < 18446744073709551616 = omega (arith, most) in search rules

pub slice_bounds-ends-end : goal.slice_bounds-ends-end
slice_bounds-ends-end g c =
    let most = mul-le (length c.args.digits.now) c.USIZE-n.result 67 32 (omega (arith, c.requires.count, c.requires.small)) (omega (arith, c.USIZE-n.ensures, c.requires.small)) in
    sym (length-take-le (length c.args.digits.now * c.USIZE-n.result) _ (omega (arith, most, length-replicate {A = ℕ})))

pub run_chains-requires-clause-room : goal.run_chains-requires-clause-room
run_chains-requires-clause-room g c =
    let most = mul-le (length c.args.digits.now) c.USIZE-n.result 67 32 (omega (arith, c.requires.count, c.requires.small)) (omega (arith, c.USIZE-n.ensures, c.requires.small)) in
    let long : length c.if-k-signer.asked.now ≡ length c.args.digits.now = elim c.if-k-signer.branch [
      | then-k-signer v ↦ rw v.asked-is refl
      | else-k-signer v ↦ rw v.asked-is c.no_digits-none.ensures.len
    ] in
    rw (long, ← c.USIZE-n.ensures) (omega (arith, most, c.loop-k.auto.ends, length-take {A = ℕ}, length-replicate {A = ℕ}))

pub t-key-requires : goal.t-key-requires
t-key-requires g c =
    omega (arith, c.run_chains.auto.ends, c.loop-k.auto.ends, length-take {A = ℕ}, length-replicate {A = ℕ})

pub put_part-requires-clause-fits : goal.put_part-requires-clause-fits
put_part-requires-clause-fits g c =
    let n = c.USIZE-n.result in
    let fits : (c.loop-k.k + 1) * n ≤ 8 * n = mul-le (c.loop-k.k + 1) n 8 n (omega arith) (omega arith) in
    omega (arith, fits, c.USIZE-n.ensures, c.requires.room)

pub loop-k-init : goal.loop-k-init
unfolding joined
loop-k-init g c =
    let none : 0 * c.USIZE-n.result ≡ 0 = omega arith in
    record {
      keys = rw none (refl {a = []});
      before = λ early. refl;
      after = λ late. absurd (omega (arith, late));
      cost = omega arith;
    }

pub loop-k-preserved : goal.loop-k-preserved
loop-k-preserved g c =
    let K = g.Self.HashSuite.keyed_suite c.args.keyed.now in
    let same = g.met.Self.HashSuite.keyed_suite_is c.args.keyed.now in
    let size : K.n ≡ g.Self.N.ArraySize.USIZE = ap (λ k. k.n) same in
    let law : HasLength K.suite K.n = rw same (g.met.Self.HashSuite.lengths c.requires.small) in
    let sk = c.args.sk_seed.now in
    let a = c.args.adrs.now in
    let w = c.if-k-signer.asked.now in
    let i = c.loop-k.invariant in
    let n = g.Self.N.ArraySize.USIZE in
    let len = length c.args.digits.now in
    let old = c.loop-k.sig in
    let k = c.loop-k.k in
    let y = c.args.signer in
    let none = c.no_digits-none in
    let long : length w ≡ len = elim c.if-k-signer.branch [
      | then-k-signer v ↦ rw v.asked-is refl
      | else-k-signer v ↦ rw v.asked-is none.ensures.len
    ] in
    let count : length w ≡ chain_count K.n = rw size (long ∙ c.requires.count) in
    let whole : length old ≡ len * K.n = rw size (omega (arith, c.loop-k.auto.sig, c.requires.whole)) in
    let key : c.t-key.result ≡ wots_pk K sk a.layer_adrs a.tree_adrs_low (a.key_pair_adrs + k)
    = rw (c.t-key.ensures.value, c.pk_adrs.ensures, c.at_key_pair-at.ensures) (key_of_ends K sk a.layer_adrs a.tree_adrs_low (a.key_pair_adrs + k) (length w) c.run_chains.new.ends count (rw c.at_key_pair-at.ensures at c.run_chains.ensures.ends)) in
    let made = rw (c.at_key_pair-at.ensures, long) at c.run_chains.ensures.values in
    let kept : k ≢ y → c.run_chains.new.sig ≡ old = λ other. elim c.if-k-signer.branch [
      | then-k-signer v ↦ absurd (omega (arith, v.if-k-signer.true, other))
      | else-k-signer v ↦ (let blank : (i : ℕ) → i < len → slice_index w i ≡ 16 = rw v.asked-is none.ensures.none in
          made ∙ values_none K sk a.layer_adrs a.tree_adrs_low (a.key_pair_adrs + k) len old w whole blank)
    ] in
    let signed : k ≡ y → w ≡ c.args.digits.now = λ same. elim c.if-k-signer.branch [
      | then-k-signer v ↦ rw v.asked-is refl
      | else-k-signer v ↦ absurd (omega (arith, v.if-k-signer.false, same))
    ] in
    record {
      keys = rw (c.put_part.ensures.front, i.keys, joined_more, c.as_slice.ensures.value, key) refl;
      before = λ low. kept (omega (arith, low)) ∙ i.before (omega (arith, low));
      after = λ met. elim (cases_lt y k) [
        | inl past ↦ kept (omega (arith, past)) ∙ i.after past
        | inr here ↦ (let is : k ≡ y = omega (arith, met, here) in
            rw (signed is, i.before (omega (arith, is)), is) at made)
      ];
      cost = let ran = c.run_chains.ensures.cost in omega (arith, c.t-key.ensures.step, ran, i.cost, long);
    }

pub returns-clause-keys : goal.returns-clause-keys
returns-clause-keys g c =
    whole_joined _ c.USIZE-n.result 8 c.loop-k.k c.loop-k.out (omega arith) (rw c.USIZE-n.ensures (omega (arith, c.requires.room))) c.loop-k.invariant.keys
