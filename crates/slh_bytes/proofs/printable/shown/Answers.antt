use Rattle.std.proofs.Common.{◌≡◌, ◌∙◌, ℕ, List, IfOk, false, ap, subst, string_bytes, sym}
use Rattle.std.specs.Str.{chars}
use Rattle.slh_bytes.specs.Shown.{has_control}
use Rattle.slh_bytes.proofs.Names.{shown-control, shown-other, shown-plain}
use Rattle.slh_bytes.proofs.printable.shown.Goals as goal
use Rattle.slh_bytes.proofs.printable.shown.Goals.{in_default-via-in-Ok+else-not-has_control, in_default-via-in_default}

pub returns-in-Ok : goal.returns-in-Ok
returns-in-Ok c =
    let text : c.in-Ok.text.now ≡ c.args.name.now = c.in-Ok.ensures.cases.0 in
    let none : has_control (chars c.args.name.now) ≡ false =
    ap (λ (t : List ℕ). has_control (chars t)) (sym text) ∙ sym c.if-not-has_control.ensures in
    subst (λ (name : List ℕ). IfOk c.to_owned.result (λ t. string_bytes t ≡ name))
    (text ∙ shown-plain c.args.name.now c.in-Ok.ensures.cases.1 none) c.to_owned.ensures.ok

pub returns-in_default : goal.returns-in_default
returns-in_default c =
    subst (λ (name : List ℕ). IfOk c.shown_bytes.result (λ t. string_bytes t ≡ name))
    (elim c.in_default.branch [
      | in_default-via-in-Ok+else-not-has_control w ↦
          shown-control c.args.name.now w.in-Ok.ensures.cases.1
          (ap (λ (t : List ℕ). has_control (chars t)) (sym w.in-Ok.ensures.cases.0)
          ∙ sym w.if-not-has_control.ensures)
      | in_default-via-in_default w ↦
          shown-other c.args.name.now w.in_default.ensures.cases.0
    ]) c.shown_bytes.ensures
