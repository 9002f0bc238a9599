use Rattle.std.proofs.lemmas.Grind.{common_steps}
use Rattle.std.proofs.Common.{◌≡◌, ◌∷◌, false, sym, ◌∙◌, ap, take, arith}
use Rattle.std.specs.Prelude.{◌&&◌}
use Rattle.line_serve.specs.Lines.{parts}
use Rattle.slh_log.proofs.Cut.{compared, signatures_end, signatures_on, some_parts}
use Rattle.slh_log.specs.Reading.{are_signatures, begins_with}
use Rattle.slh_log.specs.Texts.{dash}
use Rattle.slh_log.proofs.lines.are_signatures.Goals as goal

pub returns-then-not-starts_with : goal.returns-then-not-starts_with
returns-then-not-starts_with c =
    let line = c.in-Some.line.now in
    let later = parts c.in-Some.later.now in
    let here : begins_with dash line ≡ false = compared (take 4 line) dash ∙ sym c.starts_with.ensures.value ∙ c.if-not-starts_with.true in
    sym (c.each_line.invariant ∙ ap are_signatures c.in-Some.ensures.cut
    ∙ signatures_on line later (some_parts c.in-Some.later.now) ∙ ap (λ b. b && are_signatures later) here)

pub each_line-preserved : goal.each_line-preserved
each_line-preserved c =
    let line = c.in-Some.line.now in
    let later = parts c.in-Some.later.now in
    c.each_line.invariant ∙ ap are_signatures c.in-Some.ensures.cut
    ∙ signatures_on line later (some_parts c.in-Some.later.now)
    ∙ ap (λ b. b && are_signatures later) (compared (take 4 line) dash ∙ sym c.starts_with.ensures.value ∙ c.if-not-starts_with.false)

pub returns : goal.returns
returns c =
    c.is_empty.ensures
    ∙ sym (c.each_line.invariant ∙ ap are_signatures c.in_default.ensures.cut ∙ signatures_end c.each_line.rest.now)

pub each_line-init : goal.each_line-init
each_line-init c = grind (arith, common_steps)
