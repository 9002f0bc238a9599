use Rattle.std.proofs.Common.{◌≡◌, ◌∙◌, ap, arith, refl}
use Rattle.slh_core.specs.Wots.{wots_pk}
use Rattle.slh_core.proofs.Chains.{values_signed}
use Rattle.slh_core.proofs.DigitSteps.{length-wots_digits}
use Rattle.slh_core.proofs.wots.wots_sign_leaf.Goals as goal

pub returns-clause-value : goal.returns-clause-value
returns-clause-value g c =
    let K = g.P.HashSuite.keyed_suite c.args.keyed.now in
    let size : K.n ≡ g.P.N.ArraySize.USIZE = ap (λ k. k.n) (g.met.P.HashSuite.keyed_suite_is c.args.keyed.now) in
    let a = c.args.adrs.now in
    let made = rw (c.WOTS_SIG_LEN-len.ensures, c.chain_sizes.ensures.signature_len, c.message_digits-all.ensures, ← size) at c.run_chains.ensures.values in
    made ∙ values_signed K c.args.sk_seed.now a.layer_adrs a.tree_adrs_low a.key_pair_adrs c.args.out.now c.args.m.now

pub returns-clause-leaf : goal.returns-clause-leaf
unfolding wots_pk
returns-clause-leaf g c =
    let K = g.P.HashSuite.keyed_suite c.args.keyed.now in
    let n = g.P.N.ArraySize.USIZE in
    let size : K.n ≡ n = ap (λ k. k.n) (g.met.P.HashSuite.keyed_suite_is c.args.keyed.now) in
    let made = rw (c.WOTS_SIG_LEN-len.ensures, c.chain_sizes.ensures.signature_len, c.message_digits-all.ensures, length-wots_digits n c.args.m.now) at c.run_chains.ensures.ends in
    rw (c.t.ensures.value, c.pk_adrs.ensures, made, ← size) refl

pub returns-clause-cost : goal.returns-clause-cost
returns-clause-cost g c =
    let run = rw (c.WOTS_SIG_LEN-len.ensures, c.chain_sizes.ensures.signature_len, c.message_digits-all.ensures, length-wots_digits g.P.N.ArraySize.USIZE c.args.m.now) at c.run_chains.ensures.cost in
    omega (arith, run, c.t.ensures.step, c.chain_sizes.ensures.signature_len)
