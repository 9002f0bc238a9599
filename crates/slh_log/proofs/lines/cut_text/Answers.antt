use Rattle.std.proofs.lemmas.Grind.{common_steps}
use Rattle.std.proofs.Common.{◌≡◌, ◌+◌, ◌-◌, ◌∷◌, length, take, false, sym, ◌∙◌, ap, arith}
use Rattle.std.specs.Prelude.{◌==◌}
use Rattle.std.proofs.lemmas.Bool.Decides.{Decides-eqb}
use Rattle.line_serve.specs.Lines.{parts}
use Rattle.slh_log.proofs.Cut.{after_ends, after_last, after_on, no_signatures, text_ends, text_on}
use Rattle.slh_log.specs.Reading.{after_text, are_signatures, text_len}
use Rattle.slh_log.proofs.lines.cut_text.Goals as goal

pub returns-then-is_empty-clause-cut : goal.returns-then-is_empty-clause-cut
returns-then-is_empty-clause-cut c =
    let line = c.in-Some.line.now in
    let empty : length line ≡ 0 = (Decides-eqb _ _).0 (sym c.is_empty.ensures ∙ c.if-is_empty.true) in
    c.each_line.invariant.after ∙ ap after_text c.in-Some.ensures.cut ∙ after_ends line (parts c.in-Some.later.now) empty

pub returns-then-is_empty-clause-text : goal.returns-then-is_empty-clause-text
returns-then-is_empty-clause-text c =
    let bytes = c.args.bytes.now in
    let rest = c.each_line.rest.now in
    let line = c.in-Some.line.now in
    let empty : length line ≡ 0 = (Decides-eqb _ _).0 (sym c.is_empty.ensures ∙ c.if-is_empty.true) in
    let none : text_len (parts rest) ≡ 0 = ap text_len c.in-Some.ensures.cut ∙ text_ends line (parts c.in-Some.later.now) empty in
    let size : length bytes - length rest ≡ text_len (parts bytes) = omega (arith, c.each_line.invariant.text, c.each_line.invariant.within) in
    ap (λ n. take n bytes) size

pub each_line-preserved : goal.each_line-preserved
each_line-preserved c =
    let line = c.in-Some.line.now in
    let rest = c.each_line.rest.now in
    let later = c.in-Some.later.now in
    let some : (length line == 0) ≡ false = sym c.is_empty.ensures ∙ c.if-is_empty.false in
    let on : text_len (parts rest) ≡ length line + 1 + text_len (parts later) = ap text_len c.in-Some.ensures.cut ∙ text_on line (parts later) some in
    record {
      within = omega (arith, c.each_line.invariant.within, c.in-Some.ensures.shorter);
      text = omega (arith, c.each_line.invariant.text, c.in-Some.ensures.shorter);
      after = c.each_line.invariant.after ∙ ap after_text c.in-Some.ensures.cut ∙ after_on line (parts later) some;
    }

pub returns-clause-cut : goal.returns-clause-cut
returns-clause-cut c =
    ap are_signatures (c.each_line.invariant.after ∙ ap after_text c.in_default.ensures.cut ∙ after_last c.each_line.rest.now) ∙ no_signatures

pub each_line-init : goal.each_line-init
each_line-init c = grind (arith, common_steps)
