use Rattle.std.proofs.Common.{◌≡◌, ◌+◌, ◌*◌, ap, length, arith}
use Rattle.slh_core.specs.Suite.{HasLength}
use Rattle.slh_core.proofs.Chains.{chains_first, chains_next, reached_next, reached_none}
use Rattle.slh_core.proofs.suite.HashSuite.run_chains.Goals as goal

pub loop-q-init : goal.loop-q-init
loop-q-init g c =
    let K = g.Self.HashSuite.keyed_suite c.args.keyed.now in
    let same = g.met.Self.HashSuite.keyed_suite_is c.args.keyed.now in
    let size : K.n ≡ g.Self.N.ArraySize.USIZE = ap (λ k. k.n) same in
    let law : HasLength K.suite K.n = rw same (g.met.Self.HashSuite.lengths c.requires.small) in
    let sk = c.args.sk_seed.now in
    let a = c.args.adrs.now in
    let w = c.args.digits.now in
    let old = c.args.sig.now in
    let len = length w in
    let whole : length old ≡ len * K.n = rw size c.requires.whole in
    let numbers = c.first_numbers-numbers in
    let secrets = chains_first K sk a.layer_adrs a.tree_adrs_low a.key_pair_adrs len numbers.result.now c.prf_each.new.out numbers.ensures.numbered
    (rw (c.prf_adrs.ensures, numbers.ensures.len) at c.prf_each.ensures.value) in
    record {
      ends = secrets;
      values = reached_next K sk a.layer_adrs a.tree_adrs_low a.key_pair_adrs len 0 old w old c.prf_each.new.out c.copy_reached.new.out law whole
          (reached_none K sk a.layer_adrs a.tree_adrs_low a.key_pair_adrs len old w whole) secrets
          (rw (c.USIZE-n.ensures, ← size) at c.copy_reached.ensures);
      cost = omega (arith, c.prf_each.ensures.step, numbers.ensures.len);
    }

pub loop-q-preserved : goal.loop-q-preserved
loop-q-preserved g c =
    let K = g.Self.HashSuite.keyed_suite c.args.keyed.now in
    let same = g.met.Self.HashSuite.keyed_suite_is c.args.keyed.now in
    let size : K.n ≡ g.Self.N.ArraySize.USIZE = ap (λ k. k.n) same in
    let law : HasLength K.suite K.n = rw same (g.met.Self.HashSuite.lengths c.requires.small) in
    let sk = c.args.sk_seed.now in
    let a = c.args.adrs.now in
    let w = c.args.digits.now in
    let len = length w in
    let q = c.loop-q.q in
    let i = c.loop-q.invariant in
    let ends = c.f_each.new.values in
    let numbers = c.first_numbers-numbers in
    let on = chains_next K sk a.layer_adrs a.tree_adrs_low a.key_pair_adrs len q numbers.result.now c.loop-q.ends ends law numbers.ensures.numbered i.ends
    (rw (c.at_step-at.ensures, c.from.ensures, numbers.ensures.len, ← size) at c.f_each.ensures.value) in
    record {
      ends = on;
      values = reached_next K sk a.layer_adrs a.tree_adrs_low a.key_pair_adrs len (q + 1) c.args.sig.now w c.loop-q.sig ends c.copy_reached-in-loop-q.new.out law (rw size c.requires.whole) i.values on
          (rw (c.USIZE-n.ensures, ← size) at c.copy_reached-in-loop-q.ensures);
      cost = omega (arith, c.f_each.ensures.step, numbers.ensures.len, i.cost);
    }

pub returns-clause-values : goal.returns-clause-values
returns-clause-values g c =
    let last : c.loop-q.q ≡ 15 = omega (arith, c.loop-q-test.false, c.loop-q.auto.q-end) in
    rw last at c.loop-q.invariant.values
