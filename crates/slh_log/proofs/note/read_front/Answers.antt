use Rattle.std.proofs.lemmas.Grind.{common_steps}
use Rattle.std.proofs.Common.{◌∷◌, [], ◌∙◌, ap, arith}
use Rattle.slh_log.proofs.Forms.{no_third}
use Rattle.slh_log.proofs.note.read_front.Goals as goal

pub returns-in_default : goal.returns-in_default
returns-in_default c =
    let a = c.in_ok-origin.origin.now in
    let b = c.in_ok-size.size.now in
    no_third c.args.bytes.now a b c.in_ok-size.rest.now
    (c.in_ok-origin.ensures.cut ∙ ap (λ p. a ∷ p) (c.in_ok-size.ensures.cut ∙ ap (λ p. b ∷ p) c.in_default.ensures.cut))

pub returns-in_err-origin : goal.returns-in_err-origin
returns-in_err-origin c = grind (arith, common_steps)

pub returns-in_err-size : goal.returns-in_err-size
returns-in_err-size c = grind (arith, common_steps)

pub returns-then-is_empty : goal.returns-then-is_empty
returns-then-is_empty c = grind (arith, common_steps)

pub returns-in_err-size-2 : goal.returns-in_err-size-2
returns-in_err-size-2 c = grind (arith, common_steps)

pub returns-then-not-decode_into : goal.returns-then-not-decode_into
returns-then-not-decode_into c = grind (arith, common_steps)

pub returns : goal.returns
returns c = grind (arith, common_steps)
