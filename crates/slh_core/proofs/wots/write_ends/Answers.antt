use Rattle.std.proofs.Common.{◌≡◌, ◌<◌, ◌∙◌, ℕ, ap, arith, length, slice_index}
use Rattle.slh_core.specs.Suite.{HasLength}
use Rattle.slh_core.proofs.Chains.{chains_first, chains_next}
use Rattle.slh_core.proofs.wots.write_ends.Goals as goal

pub loop-q-init : goal.loop-q-init
loop-q-init g c =
    let K = g.P.HashSuite.keyed_suite c.args.keyed.now in
    let len = g.P.WotsSizes.WOTS_SIG_LEN in
    let a = c.args.adrs.now in
    let count : length c.first_numbers-numbers.result.now ≡ len = c.first_numbers-numbers.ensures.len ∙ c.WOTS_SIG_LEN.ensures in
    let numbered : (k : ℕ) → k < len → slice_index c.first_numbers-numbers.result.now k ≡ k = λ k low. c.first_numbers-numbers.ensures.numbered k (omega (arith, c.WOTS_SIG_LEN.ensures)) in
    record {
      values = chains_first K c.args.sk_seed.now a.layer_adrs a.tree_adrs_low a.key_pair_adrs len c.first_numbers-numbers.result.now c.prf_each.new.out numbered
          (rw (c.prf_adrs.ensures, count) at c.prf_each.ensures.value);
      cost = omega (arith, c.prf_each.ensures.step, count);
    }

pub loop-q-preserved : goal.loop-q-preserved
loop-q-preserved g c =
    let K = g.P.HashSuite.keyed_suite c.args.keyed.now in
    let same = g.met.P.HashSuite.keyed_suite_is c.args.keyed.now in
    let size : K.n ≡ g.P.N.ArraySize.USIZE = ap (λ k. k.n) same in
    let law : HasLength K.suite K.n = rw same (g.met.P.HashSuite.lengths g.met.P.WotsSizes.valid_wots.n_high) in
    let len = g.P.WotsSizes.WOTS_SIG_LEN in
    let a = c.args.adrs.now in
    let i = c.loop-q.invariant in
    let count : length c.first_numbers-numbers.result.now ≡ len = c.first_numbers-numbers.ensures.len ∙ c.WOTS_SIG_LEN.ensures in
    let numbered : (k : ℕ) → k < len → slice_index c.first_numbers-numbers.result.now k ≡ k = λ k low. c.first_numbers-numbers.ensures.numbered k (omega (arith, c.WOTS_SIG_LEN.ensures)) in
    record {
      values = chains_next K c.args.sk_seed.now a.layer_adrs a.tree_adrs_low a.key_pair_adrs len c.loop-q.q c.first_numbers-numbers.result.now c.loop-q.out c.f_each.new.values law numbered i.values
          (rw (c.at_step.ensures, count, ← size) at c.f_each.ensures.value);
      cost = omega (arith, c.f_each.ensures.step, count, i.cost);
    }
