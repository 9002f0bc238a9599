use Rattle.std.proofs.Common.{arith, ◌≡◌, take, get_or}
use Rattle.std.proofs.lemmas.Grind.{common_steps}
use Rattle.std.proofs.lemmas.List.{get_or-take}
use Rattle.slh_core.proofs.DigitSteps.{wots_digits_below}
use Rattle.slh_core.specs.Parameters.{chain_count}
use Rattle.slh_audit.proofs.layer.digit_of.Goals as goal

pub returns : goal.returns
returns g c = record {
  value = grind (arith, common_steps);
  below =
      let n = g.P.N.ArraySize.USIZE in
      let all = c.message_digits.result in
      let cut : get_or (take (chain_count n) all) c.args.chain 0 ≡ get_or all c.args.chain 0
      = get_or-take (chain_count n) all c.args.chain 0 (omega arith) in
      rw (c.from.ensures, ← cut, c.message_digits.ensures) (wots_digits_below n c.args.message.now c.args.chain);
}
