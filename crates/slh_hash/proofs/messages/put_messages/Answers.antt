use Rattle.std.proofs.Common.{◌*◌, ◌+◌, ◌∙◌, ap, arith, length, refl}
use Rattle.slh_hash.proofs.Grouped.{group_within, groups_done}
use Rattle.slh_hash.proofs.KeyMessages.{length-message, message, message_put}
use Rattle.slh_hash.proofs.messages.put_messages.Goals as goal

pub loop-k-preserved : goal.loop-k-preserved
loop-k-preserved g c =
    let a = c.args.adrs.now in
    let len = 22 + c.args.count * c.args.n in
    let k = c.loop-k.k in
    message_put (λ k. message c.args.n c.args.count c.args.ends.now a.layer_adrs a.tree_adrs_low a.key_pair_adrs (c.args.first + k)) g.row.W len k c.loop-k.out c.put_message.new.out
    (c.loop-k.auto.out ∙ c.requires.room) (omega arith) c.loop-k.invariant
    (ap length c.put_message.ensures ∙ length-message c.args.n c.args.count c.args.ends.now a.layer_adrs a.tree_adrs_low a.key_pair_adrs (c.args.first + k) c.requires.whole (omega (arith, c.requires.lanes, c.loop-k-test.true)))
    c.put_message.ensures

pub slice_bounds-message-end : goal.slice_bounds-message-end
slice_bounds-message-end g c =
    let len = 22 + c.args.count * c.args.n in
    group_within len len (c.loop-k.k + 1) g.row.W (length c.loop-k.out) refl (omega (arith, c.loop-k-test.true)) (c.loop-k.auto.out ∙ c.requires.room)

pub returns : goal.returns
returns g c =
    let a = c.args.adrs.now in
    groups_done (λ k. message c.args.n c.args.count c.args.ends.now a.layer_adrs a.tree_adrs_low a.key_pair_adrs (c.args.first + k)) (22 + c.args.count * c.args.n) c.loop-k.k g.row.W c.loop-k.out c.loop-k.invariant (omega (arith, c.loop-k.auto.k-end)) c.loop-k-test.false
    (c.loop-k.auto.out ∙ c.requires.room)
