use Rattle.std.proofs.Common.{arith, rules, ◌≡◌, ◌+◌, ◌*◌, ap, refl, sum}
use Rattle.slh_core.specs.Digits.{wots_digits}
use Rattle.slh_core.specs.Wots.{wots_pk_from_sig}
use Rattle.slh_core.proofs.DigitSteps.{wots_digits-sum}
use Rattle.slh_core.proofs.wots.wots_pk_from_sig.Goals as goal

pub returns-clause-cost : goal.returns-clause-cost
returns-clause-cost g c =
    let digits = wots_digits g.P.N.ArraySize.USIZE c.args.m.now in
    let cost : c.finish_each.new.steps + sum digits
    ≡ c.args.steps.now + 15 * g.P.WotsSizes.WOTS_SIG_LEN = search rules in
    omega (arith, wots_digits-sum g.P.N.ArraySize.USIZE c.args.m.now)

pub returns-clause-value : goal.returns-clause-value
unfolding wots_pk_from_sig
returns-clause-value g c =
    let K = g.P.HashSuite.keyed_suite c.args.keyed.now in
    let size : K.n ≡ g.P.N.ArraySize.USIZE = ap (λ k. k.n) (g.met.P.HashSuite.keyed_suite_is c.args.keyed.now) in
    let made = rw (c.WOTS_SIG_LEN-len.ensures, c.chain_sizes.ensures.signature_len, c.message_digits-all.ensures) at c.finish_each.ensures.value in
    rw (c.t.ensures.value, c.pk_adrs.ensures, made, ← size) refl
