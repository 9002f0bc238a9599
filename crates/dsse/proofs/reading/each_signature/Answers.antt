use Rattle.std.proofs.Common.{◌≡◌, ◌++◌, ◌∷◌, [], ap, ◌∙◌, arith}
use Rattle.std.specs.Prelude.{if◌then◌else◌}
use Rattle.dsse.proofs.Lists.{value_read, value_refused}
use Rattle.dsse.proofs.reading.each_signature.Goals as goal

pub loop-item-preserved : goal.loop-item-preserved
loop-item-preserved c =
    let pushed : c.push.new.self.items ≡ c.loop-item.found.items ++ c.in_ok-signature.signature ∷ [] =
    c.push.ensures.items
    ∙ ap (λ b. if b then c.loop-item.found.items ++ c.in_ok-signature.signature ∷ [] else c.loop-item.found.items) c.if-is_err.ensures.negation in
    value_read c.loop-item.found.items c.push.new.self.items c.args.items.now c.loop-item.item-index c.item-item.result c.in_ok-signature.signature _ (omega arith)
    c.item-item.is c.in_ok-signature.ensures.ok pushed c.loop-item.invariant

pub returns-in_err-signature-clause-form : goal.returns-in_err-signature-clause-form
returns-in_err-signature-clause-form c = λ is.
    let from = rw is at c.from_residual-in_err-signature.ensures.1 in
    value_refused c.loop-item.found.items c.args.items.now c.loop-item.item-index c.item-item.result _ (omega arith) c.item-item.is
    (c.in_err-signature.ensures.form cc) c.loop-item.invariant
