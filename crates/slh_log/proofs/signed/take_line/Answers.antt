use Rattle.std.proofs.lemmas.Grind.{common_steps}
use Rattle.std.proofs.Common.{◌≡◌, ◌∷◌, [], length, true, false, subst, sym, ◌∙◌, take, arith}
use Rattle.slh_log.proofs.Cut.{compared}
use Rattle.slh_log.proofs.Signatures.{Fills, not_taken, stripped, taken}
use Rattle.slh_log.specs.Reading.{bytes_value, signature_in}
use Rattle.slh_log.specs.Texts.{dash}
use Rattle.slh_log.proofs.signed.take_line.Goals as goal

pub returns-then-decode_into : goal.returns-then-decode_into
returns-then-decode_into c =
    let named = c.in-Some.rest.now in
    let spaced = c.in-Some-strip_prefix.rest.now in
    let symbols = c.in-Some-strip_prefix-2.symbols.now in
    let out = c.decode_into.new.out in
    let fills : Fills (bytes_value (length c.args.out.now) symbols) true out =
    subst (λ d. Fills (bytes_value (length c.args.out.now) symbols) d out) c.if-decode_into.true c.decode_into.ensures in
    taken (length c.args.out.now) c.args.name.now c.args.id.now c.args.line.now named spaced symbols out c.starts_with.result
    (stripped dash c.args.line.now named c.in-Some.ensures.cases.0 c.in-Some.ensures.cases.1)
    (stripped c.args.name.now named spaced c.in-Some-strip_prefix.ensures.cases.0 c.in-Some-strip_prefix.ensures.cases.1)
    (stripped (32 ∷ []) spaced symbols c.in-Some-strip_prefix-2.ensures.cases.0 c.in-Some-strip_prefix-2.ensures.cases.1)
    fills (c.starts_with.ensures.value ∙ compared c.args.id.now (take (length c.args.id.now) out))

pub returns-else-decode_into : goal.returns-else-decode_into
returns-else-decode_into c =
    let named = c.in-Some.rest.now in
    let spaced = c.in-Some-strip_prefix.rest.now in
    let symbols = c.in-Some-strip_prefix-2.symbols.now in
    let out = c.decode_into.new.out in
    let none : Fills (bytes_value (length c.args.out.now) symbols) false out =
    subst (λ d. Fills (bytes_value (length c.args.out.now) symbols) d out) c.if-decode_into.false c.decode_into.ensures in
    subst (λ d. Fills (signature_in (length c.args.out.now) c.args.name.now c.args.id.now c.args.line.now) d out) (sym c.if-decode_into.false)
    (not_taken (length c.args.out.now) c.args.name.now c.args.id.now c.args.line.now named spaced symbols out
    (stripped dash c.args.line.now named c.in-Some.ensures.cases.0 c.in-Some.ensures.cases.1)
    (stripped c.args.name.now named spaced c.in-Some-strip_prefix.ensures.cases.0 c.in-Some-strip_prefix.ensures.cases.1)
    (stripped (32 ∷ []) spaced symbols c.in-Some-strip_prefix-2.ensures.cases.0 c.in-Some-strip_prefix-2.ensures.cases.1)
    none)

pub returns-in_default : goal.returns-in_default
returns-in_default c = grind (arith, common_steps)

pub returns-in_default-strip_prefix : goal.returns-in_default-strip_prefix
returns-in_default-strip_prefix c = grind (arith, common_steps)

pub returns-in_default-strip_prefix-2 : goal.returns-in_default-strip_prefix-2
returns-in_default-strip_prefix-2 c = grind (arith, common_steps)
