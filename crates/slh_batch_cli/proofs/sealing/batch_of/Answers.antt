use Rattle.std.proofs.Common.{◌≡◌, ◌∙◌, sym, arith, rules, get_or, [], true}
use Rattle.std.proofs.lemmas.List.Folds.{list_any_at}
use Rattle.slh_batch.specs.declared.error.BatchError.TheVariants.{Message}
use Rattle.slh_batch_cli.specs.Replies.{is_long}
use Rattle.slh_batch_cli.proofs.Pushed.{leaves_more, refused_long, short_more, unrefused_short}
use Rattle.slh_batch_cli.proofs.sealing.batch_of.Goals as goal

pub returns-in_err-push-clause-long : goal.returns-in_err-push-clause-long
returns-in_err-push-clause-long c = λ is.
    let messages = c.args.messages.now in
    let i = c.each_message.i in
    let same : c.in_err-push.field-0.0 ≡ Message = search rules in
    let long : is_long (get_or messages i []) ≡ true = rw (← c.word_at.ensures) (refused_long c.each_message.batch c.word_at.result.now (sym c.in_err-push.ensures.refusal ∙ same)) in
    list_any_at is_long messages i [] (omega arith) long

pub each_message-preserved : goal.each_message-preserved
each_message-preserved c =
    let messages = c.args.messages.now in
    let i = c.each_message.i in
    record {
      batch = rw (c.in_ok-push.ensures.value, c.each_message.invariant.batch, c.word_at.ensures) (leaves_more messages i (omega arith));
      short = short_more messages i (omega arith) c.each_message.invariant.short
          (rw (← c.word_at.ensures) (unrefused_short c.each_message.batch c.word_at.result.now c.in_ok-push.ensures.refusal));
    }
