use Rattle.std.proofs.Common.{◌∙◌, sym}
use Rattle.slh_batch_cli.proofs.Written.{lines_more, lines_none}
use Rattle.slh_batch_cli.proofs.sealing.lines_of.Goals as goal

pub each_message-init : goal.each_message-init
each_message-init g c = c.new-text.ensures ∙ sym (lines_none c.args.sealed.now.leaves c.args.sealed.now.signature)

pub each_message-preserved : goal.each_message-preserved
each_message-preserved g c =
    let leaves = c.args.sealed.now.leaves in
    let signature = c.args.sealed.now.signature in
    rw (lines_more leaves signature c.each_message.i, ← c.each_message.invariant, ← c.in-Ok.ensures.value, ← c.deref.ensures.value) c.in_ok-push_hex_line-in-Ok.ensures
