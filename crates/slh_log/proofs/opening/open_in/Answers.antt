use Rattle.std.proofs.lemmas.Grind.{common_steps}
use Rattle.std.proofs.Common.{◌≡◌, ◌&&◌, true, sym, ◌∙◌, ap, arith}
use Rattle.std.specs.Str.{bytes_eq}
use Rattle.line_serve.specs.Lines.{parts}
use Rattle.slh_log.proofs.Made.{opens_by}
use Rattle.slh_log.specs.Reading.{is_origin, line_at}
use Rattle.slh_log.proofs.opening.open_in.Goals as goal

pub returns-in-Ok-clause-refusal : goal.returns-in-Ok-clause-refusal
returns-in-Ok-clause-refusal g c =
    let note = c.in-Some.note in
    let is = c.in-Some.ensures in
    let origin = c.args.origin.now in
    let same : (is_origin origin && bytes_eq (line_at c.args.bytes.now 0) origin) ≡ true =
    ap (λ o. is_origin origin && bytes_eq o origin) is.first ∙ sym c.is_of.ensures.value ∙ c.if-not-is_of.false in
    opens_by g.P.ForsSizes.scheme g.P.SetSizes.set_name c.args.vk.now origin c.args.bytes.now note.text.now (parts note.signatures.now) is.form same is.text is.signatures
    ∙ c.in-Ok.ensures

pub returns-in-Err-clause-refusal : goal.returns-in-Err-clause-refusal
returns-in-Err-clause-refusal g c =
    let note = c.in-Some.note in
    let is = c.in-Some.ensures in
    let origin = c.args.origin.now in
    let same : (is_origin origin && bytes_eq (line_at c.args.bytes.now 0) origin) ≡ true =
    ap (λ o. is_origin origin && bytes_eq o origin) is.first ∙ sym c.is_of.ensures.value ∙ c.if-not-is_of.false in
    opens_by g.P.ForsSizes.scheme g.P.SetSizes.set_name c.args.vk.now origin c.args.bytes.now note.text.now (parts note.signatures.now) is.form same is.text is.signatures
    ∙ c.in-Err.ensures

pub returns-in_default : goal.returns-in_default
returns-in_default g c = grind (arith, common_steps)

pub returns-then-not-is_of : goal.returns-then-not-is_of
returns-then-not-is_of g c = grind (arith, common_steps)

pub check_signature-requires : goal.check_signature-requires
check_signature-requires g c = grind (arith, common_steps)
