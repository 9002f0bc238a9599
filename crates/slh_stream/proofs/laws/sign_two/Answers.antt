use Rattle.std.proofs.Common.{◌∙◌, ◌++◌, refl}
use Rattle.std.specs.Option.{option_copied}
use Rattle.slh_dsa.specs.Calls.{opt_rand_refusal}
use Rattle.slh_dsa.specs.declared.error.Error.TheVariants.{ContextTooLong, MessageTooLong}
use Rattle.slh_stream.proofs.Refused.{begun_refused, handed_on, later_refused, longer, never_none, none_refused, second_refused}
use Rattle.slh_stream.proofs.laws.sign_two.Goals as goal
use Rattle.slh_core.specs.Refusals.{context_refusal, message_refusal}

pub returns-in-Ok-clause-value : goal.returns-in-Ok-clause-value
returns-in-Ok-clause-value g c same =
    c.in-Ok.ensures.value _ _ _ _
    (c.in_ok-update-3.ensures.joins _ _ _ _ (c.in_ok-update-2.ensures.joins _ _ _ _
    (c.again-pass.ensures.empty _ _ _ _ (c.in_ok-update.ensures.joins _ _ _ _ c.in_ok-pass.ensures.empty))))

pub returns-in-Ok-clause-signed : goal.returns-in-Ok-clause-signed
returns-in-Ok-clause-signed g c =
    let first = c.in_ok-update.ensures.joins _ _ _ _ c.in_ok-pass.ensures.empty in
    let second = c.in_ok-update-3.ensures.joins _ _ _ _ (c.in_ok-update-2.ensures.joins _ _ _ _ (c.again-pass.ensures.empty _ _ _ _ first)) in
    let rand = c.in_ok-update-3.ensures.kept ∙ c.in_ok-update-2.ensures.kept ∙ c.again-pass.ensures.rand _ _ _ _ first in
    let refusal = rw rand at (c.in-Ok.ensures.refusal _ _ _ _ second) in
    (λ _. refusal, λ _. refl)

pub returns-in-Err-clause-signed : goal.returns-in-Err-clause-signed
returns-in-Err-clause-signed g c =
    let first = c.in_ok-update.ensures.joins _ _ _ _ c.in_ok-pass.ensures.empty in
    let second = c.in_ok-update-3.ensures.joins _ _ _ _ (c.in_ok-update-2.ensures.joins _ _ _ _ (c.again-pass.ensures.empty _ _ _ _ first)) in
    let rand = c.in_ok-update-3.ensures.kept ∙ c.in_ok-update-2.ensures.kept ∙ c.again-pass.ensures.rand _ _ _ _ first in
    let refusal = rw rand at (c.in-Err.ensures.refusal _ _ _ _ second) in
    (λ signed. cc signed, λ none. never_none _ _ refusal none)

pub returns-in_err-pass-clause-refusal : goal.returns-in_err-pass-clause-refusal
returns-in_err-pass-clause-refusal g c =
    let Z = g.P.ForsSizes.scheme in
    let opt_rand = option_copied c.args.opt_rand in
    let cause = c.in_err-pass.field-0.0 in
    handed_on c.from_residual.result _ cause
    (begun_refused (context_refusal ContextTooLong c.args.ctx.now) (opt_rand_refusal Z opt_rand)
    (message_refusal MessageTooLong c.args.before.now)
    (message_refusal MessageTooLong (c.args.first.now ++ c.args.second.now)) cause c.in_err-pass.ensures.refusal)
    c.from_residual.ensures.1

pub returns-in_err-update-clause-refusal : goal.returns-in_err-update-clause-refusal
returns-in_err-update-clause-refusal g c =
    let Z = g.P.ForsSizes.scheme in
    let opt_rand = option_copied c.args.opt_rand in
    let cause = c.in_err-update.field-0.0 in
    handed_on c.from_residual-in_err-update.result _ cause
    (later_refused (context_refusal ContextTooLong c.args.ctx.now) (opt_rand_refusal Z opt_rand)
    (message_refusal MessageTooLong c.args.before.now)
    (message_refusal MessageTooLong (c.args.first.now ++ c.args.second.now)) cause c.in_ok-pass.ensures.refusal
    (c.in_err-update.ensures.refusal _ _ _ _ c.in_ok-pass.ensures.empty))
    c.from_residual-in_err-update.ensures.1

pub returns-in_err-update-2-clause-refusal : goal.returns-in_err-update-2-clause-refusal
returns-in_err-update-2-clause-refusal g c =
    let Z = g.P.ForsSizes.scheme in
    let opt_rand = option_copied c.args.opt_rand in
    let message = c.args.first.now ++ c.args.second.now in
    let cause = c.in_err-update-2.field-0.0 in
    let first = c.in_ok-update.ensures.joins _ _ _ _ c.in_ok-pass.ensures.empty in
    handed_on c.from_residual-in_err-update-2.result _ cause
    (second_refused (context_refusal ContextTooLong c.args.ctx.now) (opt_rand_refusal Z opt_rand)
    (message_refusal MessageTooLong c.args.before.now) (message_refusal MessageTooLong message) cause
    c.in_ok-pass.ensures.refusal (c.in_ok-update.ensures.refusal _ _ _ _ c.in_ok-pass.ensures.empty)
    (longer MessageTooLong cause c.args.first.now c.args.second.now
    (c.in_err-update-2.ensures.refusal _ _ _ _ (c.again-pass.ensures.empty _ _ _ _ first))))
    c.from_residual-in_err-update-2.ensures.1

pub returns-in_err-update-3-clause-refusal : goal.returns-in_err-update-3-clause-refusal
returns-in_err-update-3-clause-refusal g c =
    let Z = g.P.ForsSizes.scheme in
    let opt_rand = option_copied c.args.opt_rand in
    let message = c.args.first.now ++ c.args.second.now in
    let cause = c.in_err-update-3.field-0.0 in
    let first = c.in_ok-update.ensures.joins _ _ _ _ c.in_ok-pass.ensures.empty in
    handed_on c.from_residual-in_err-update-3.result _ cause
    (second_refused (context_refusal ContextTooLong c.args.ctx.now) (opt_rand_refusal Z opt_rand)
    (message_refusal MessageTooLong c.args.before.now) (message_refusal MessageTooLong message) cause
    c.in_ok-pass.ensures.refusal (c.in_ok-update.ensures.refusal _ _ _ _ c.in_ok-pass.ensures.empty)
    (c.in_err-update-3.ensures.refusal _ _ _ _
    (c.in_ok-update-2.ensures.joins _ _ _ _ (c.again-pass.ensures.empty _ _ _ _ first))))
    c.from_residual-in_err-update-3.ensures.1

pub returns-in-Ok-clause-refusal : goal.returns-in-Ok-clause-refusal
returns-in-Ok-clause-refusal g c =
    let Z = g.P.ForsSizes.scheme in
    let opt_rand = option_copied c.args.opt_rand in
    let message = c.args.first.now ++ c.args.second.now in
    let first = c.in_ok-update.ensures.joins _ _ _ _ c.in_ok-pass.ensures.empty in
    none_refused (context_refusal ContextTooLong c.args.ctx.now) (opt_rand_refusal Z opt_rand)
    (message_refusal MessageTooLong c.args.before.now) (message_refusal MessageTooLong message)
    c.in_ok-pass.ensures.refusal (c.in_ok-update.ensures.refusal _ _ _ _ c.in_ok-pass.ensures.empty)
    (c.in_ok-update-3.ensures.refusal _ _ _ _
    (c.in_ok-update-2.ensures.joins _ _ _ _ (c.again-pass.ensures.empty _ _ _ _ first)))

pub returns-in-Err-clause-refusal : goal.returns-in-Err-clause-refusal
returns-in-Err-clause-refusal g c =
    let Z = g.P.ForsSizes.scheme in
    let opt_rand = option_copied c.args.opt_rand in
    let message = c.args.first.now ++ c.args.second.now in
    let first = c.in_ok-update.ensures.joins _ _ _ _ c.in_ok-pass.ensures.empty in
    none_refused (context_refusal ContextTooLong c.args.ctx.now) (opt_rand_refusal Z opt_rand)
    (message_refusal MessageTooLong c.args.before.now) (message_refusal MessageTooLong message)
    c.in_ok-pass.ensures.refusal (c.in_ok-update.ensures.refusal _ _ _ _ c.in_ok-pass.ensures.empty)
    (c.in_ok-update-3.ensures.refusal _ _ _ _
    (c.in_ok-update-2.ensures.joins _ _ _ _ (c.again-pass.ensures.empty _ _ _ _ first)))
