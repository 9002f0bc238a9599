use Rattle.std.proofs.Common.{◌∙◌, arith, ap, sym}
use Rattle.line_serve.specs.Fields.{contents}
use Rattle.slh_bytes.proofs.Following.{found, lent_count, passed, same_line}
use Rattle.slh_bytes.specs.Lines.{has_line}
use Rattle.slh_bytes.proofs.lines.has_line.Goals as goal

pub returns-then-branch : goal.returns-then-branch
returns-then-branch c =
    let words = c.as_slice-words.result.now in
    let at = c.loop-at.at in
    let is = same_line c.args.kind (contents words) at _ _ _ c.word_at.ensures c.word_at-in-loop-at.ensures
    (sym c.in_ok-is_line.ensures ∙ c.if-branch.true) in
    found c.args.kind (contents words) at (omega (arith, c.loop-at-test.true, lent_count words)) is c.loop-at.invariant
    ∙ ap (has_line c.args.kind) (ap contents c.as_slice-words.ensures.value ∙ c.in_ok-words.ensures)

pub loop-at-preserved : goal.loop-at-preserved
loop-at-preserved c =
    let words = c.as_slice-words.result.now in
    let at = c.loop-at.at in
    let is = same_line c.args.kind (contents words) at _ _ _ c.word_at.ensures c.word_at-in-loop-at.ensures
    (sym c.in_ok-is_line.ensures ∙ c.if-branch.false) in
    passed c.args.kind (contents words) at (omega (arith, c.loop-at-test.true, lent_count words)) is c.loop-at.invariant
