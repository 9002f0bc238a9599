use Rattle.std.proofs.lemmas.Grind.{common_steps}
use Rattle.std.proofs.Common.{◌≡◌, length, rules, arith}
use Rattle.std.specs.Option.{option_copied}
use Rattle.slh_jobs.proofs.Signed.{signed_is_judged, written}
use Rattle.slh_jobs.proofs.judge.sign.Goals as goal

pub returns : goal.returns
returns g c =
    let given : option_copied c.map-opt_rand.result ≡ c.args.randomizer.now = search rules in
    let size : length c.sign_checked.new.out ≡ length c.in_ok-bytes.bytes = search rules in
    rw (written c.sign_checked.new.out c.in_ok-bytes.bytes size)
    (signed_is_judged g.P.ForsSizes.scheme c.args.mode c.args.key.now c.args.context.now c.args.message.now c.args.randomizer.now c.sign_checked.new.out
    (rw c.as_slice.ensures at c.in_ok-key.ensures.refusal)
    (rw (c.as_slice-msg.ensures, c.as_slice-ctx.ensures, given) at c.in_ok-message.ensures.refusal)
    (rw (c.in_ok-message.ensures.value, c.as_slice-msg.ensures, c.as_slice-ctx.ensures, given, c.in_ok-key.ensures.value, c.as_slice.ensures) at c.sign_checked.ensures))

pub returns-in_err-key : goal.returns-in_err-key
returns-in_err-key g c = grind (arith, common_steps)

pub returns-in_err-message : goal.returns-in_err-message
returns-in_err-message g c = grind (arith, common_steps)

pub returns-in_err-bytes : goal.returns-in_err-bytes
returns-in_err-bytes g c = grind (arith, common_steps)

pub sign_checked-requires : goal.sign_checked-requires
sign_checked-requires g c = grind (arith, common_steps)
