use Rattle.std.proofs.lemmas.Grind.{common_steps}
use Rattle.std.proofs.Common.{◌≡◌, ◌∷◌, length, true, false, None, subst, sym, ◌∙◌, ap, refl, arith}
use Rattle.line_serve.specs.Lines.{parts}
use Rattle.slh_log.proofs.Cut.{some_parts}
use Rattle.slh_log.proofs.Signatures.{Fills, first_fills, first_none, own_end, own_on}
use Rattle.slh_log.specs.Reading.{first_some, own_signature, signature_in}
use Rattle.slh_log.proofs.signed.find_signature.Goals as goal

pub returns-then-take_line : goal.returns-then-take_line
returns-then-take_line c =
    let n = length c.args.out.now in
    let line = c.in-Some.line.now in
    let later = parts c.in-Some.later.now in
    let own = own_signature n c.args.name.now c.args.id.now in
    let here = signature_in n c.args.name.now c.args.id.now line in
    let out = c.take_line.new.out in
    let fills : Fills here true out =
    subst (λ d. Fills here d out) c.if-take_line.true
    (subst (λ k. Fills (signature_in k c.args.name.now c.args.id.now line) c.take_line.result out) c.each_line.invariant.size c.take_line.ensures) in
    let is = c.each_line.invariant.left ∙ ap own c.in-Some.ensures.cut ∙ own_on n c.args.name.now c.args.id.now line later (some_parts c.in-Some.later.now) in
    subst (λ v. Fills v true out) (sym is) (first_fills here (own later) out fills)

pub each_line-preserved : goal.each_line-preserved
each_line-preserved c =
    let n = length c.args.out.now in
    let line = c.in-Some.line.now in
    let later = parts c.in-Some.later.now in
    let own = own_signature n c.args.name.now c.args.id.now in
    let here = signature_in n c.args.name.now c.args.id.now line in
    let out = c.take_line.new.out in
    let fills : Fills here false out =
    subst (λ d. Fills here d out) c.if-take_line.false
    (subst (λ k. Fills (signature_in k c.args.name.now c.args.id.now line) c.take_line.result out) c.each_line.invariant.size c.take_line.ensures) in
    record {
      size = c.take_line.auto.out ∙ c.each_line.invariant.size;
      left = c.each_line.invariant.left ∙ ap own c.in-Some.ensures.cut
          ∙ own_on n c.args.name.now c.args.id.now line later (some_parts c.in-Some.later.now) ∙ first_none here (own later) out fills;
    }

pub returns : goal.returns
returns c =
    let n = length c.args.out.now in
    let own = own_signature n c.args.name.now c.args.id.now in
    let is = c.each_line.invariant.left ∙ ap own c.in_default.ensures.cut ∙ own_end n c.args.name.now c.args.id.now c.each_line.rest.now in
    subst (λ v. Fills v false c.each_line.out) (sym is) refl

pub each_line-init : goal.each_line-init
each_line-init c = grind (arith, common_steps)
