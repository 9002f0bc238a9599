use Rattle.std.proofs.Common.{arith, rules, ◌≡◌, ◌+◌, sum}
use Rattle.slh_core.specs.Digits.{wots_digits}
use Rattle.slh_core.proofs.DigitSteps.{wots_digits-sum}
use Rattle.slh_core.proofs.wots.wots_sign.Goals as goal

pub returns-clause-bound : goal.returns-clause-bound
returns-clause-bound g c =
    let digits = wots_digits g.P.N.ArraySize.USIZE c.args.m.now in
    let cost : c.write_chains.new.steps
    ≡ c.args.steps.now + (g.P.WotsSizes.WOTS_SIG_LEN + sum digits) = search rules in
    omega (arith, wots_digits-sum g.P.N.ArraySize.USIZE c.args.m.now)
