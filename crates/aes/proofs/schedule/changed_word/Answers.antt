use Rattle.std.proofs.Common.{◌∙◌, sym}
use Rattle.aes.proofs.Words.{changed_first, changed_fourth, unchanged_other, unchanged_small}
use Rattle.aes.proofs.schedule.changed_word.Goals as goal
use Rattle.aes.proofs.schedule.changed_word.Goals.{else-k-gt6-via-then-k-gt6+else-i-k-eq4, else-k-gt6-via-else-k-gt6}

pub returns-then-i-k-eq0 : goal.returns-then-i-k-eq0
returns-then-i-k-eq0 c =
    let first = changed_first c.args.k c.args.i c.args.before.now c.if-i-k-eq0.true in
    cc first

pub returns-then-i-k-eq4 : goal.returns-then-i-k-eq4
returns-then-i-k-eq4 c =
    c.substituted_word-then-i-k-eq4.ensures
    ∙ sym (changed_fourth c.args.k c.args.i c.args.before.now c.if-i-k-eq0.false c.if-k-gt6.true c.if-i-k-eq4.true)

pub returns-else-k-gt6 : goal.returns-else-k-gt6
returns-else-k-gt6 c =
    elim c.else-k-gt6.branch [
      | else-k-gt6-via-then-k-gt6+else-i-k-eq4 w ↦ unchanged_other c.args.k c.args.i c.args.before.now c.if-i-k-eq0.false w.if-k-gt6.true w.if-i-k-eq4.false
      | else-k-gt6-via-else-k-gt6 w ↦ unchanged_small c.args.k c.args.i c.args.before.now c.if-i-k-eq0.false w.if-k-gt6.false
    ]
