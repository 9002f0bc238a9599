use Rattle.std.proofs.Common.{◌≡◌, ◌++◌, length, Some}
use Rattle.slh_dsa.specs.Calls.{root_refusal, signature_refusal}
use Rattle.slh_frames.specs.Frames.{mode_frame}
use Rattle.slh_dsa.specs.declared.error.Error.TheVariants.{ContextTooLong, MessageTooLong}
use Rattle.slh_stream.proofs.Refused.{handed_on, later_refused, longer}
use Rattle.slh_stream.proofs.laws.verify_two.Goals as goal
use Rattle.slh_core.specs.Refusals.{context_refusal, message_refusal}

pub returns : goal.returns
returns g c =
    c.finish.ensures.value _ _ _ _ _
    (c.in_ok-update-2.ensures.joins _ _ _ _ _ (c.in_ok-update.ensures.joins _ _ _ _ _ c.in_ok-verifier.ensures.empty))

pub returns-in_err-update : goal.returns-in_err-update
returns-in_err-update g c =
    let Z = g.P.ForsSizes.scheme in
    let message = c.args.first.now ++ c.args.second.now in
    let cause = c.in_err-update.field-0.0 in
    let is_cause : message_refusal MessageTooLong message ≡ Some cause =
    longer MessageTooLong cause c.args.first.now c.args.second.now (c.in_err-update.ensures.refusal _ _ _ _ _ c.in_ok-verifier.ensures.empty) in
    handed_on c.from_residual-in_err-update.result _ cause
    (later_refused (signature_refusal Z (length c.args.sig.now)) (context_refusal ContextTooLong c.args.ctx.now) (message_refusal MessageTooLong message)
    (root_refusal Z c.args.key.now (mode_frame c.args.mode c.args.ctx.now message) c.args.sig.now) cause
    c.in_ok-verifier.ensures.refusal is_cause)
    c.from_residual-in_err-update.ensures.1

pub returns-in_err-update-2 : goal.returns-in_err-update-2
returns-in_err-update-2 g c =
    let Z = g.P.ForsSizes.scheme in
    let message = c.args.first.now ++ c.args.second.now in
    let cause = c.in_err-update-2.field-0.0 in
    let is_cause : message_refusal MessageTooLong message ≡ Some cause =
    c.in_err-update-2.ensures.refusal _ _ _ _ _ (c.in_ok-update.ensures.joins _ _ _ _ _ c.in_ok-verifier.ensures.empty) in
    handed_on c.from_residual-in_err-update-2.result _ cause
    (later_refused (signature_refusal Z (length c.args.sig.now)) (context_refusal ContextTooLong c.args.ctx.now) (message_refusal MessageTooLong message)
    (root_refusal Z c.args.key.now (mode_frame c.args.mode c.args.ctx.now message) c.args.sig.now) cause
    c.in_ok-verifier.ensures.refusal is_cause)
    c.from_residual-in_err-update-2.ensures.1
