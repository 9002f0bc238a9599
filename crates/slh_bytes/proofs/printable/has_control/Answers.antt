use Rattle.std.proofs.Common.{◌≡◌, ◌∙◌, ℕ, List, Bool, ap, subst, sym}
use Rattle.std.specs.Prelude.{◌||◌}
use Rattle.std.specs.Str.{chars, IsUtf8}
use Rattle.std.specs.Str.Iter.{chars_rest}
use Rattle.std.proofs.lemmas.Str.{IsUtf8-past_char, chars-nil}
use Rattle.std.proofs.lemmas.List.{nil_from_length}
use Rattle.slh_bytes.specs.Shown.{has_control}
use Rattle.slh_bytes.proofs.Names.{has_control-first}
use Rattle.slh_bytes.proofs.printable.has_control.Goals as goal

pub loop-c-init : goal.loop-c-init
loop-c-init c =
    let is : c.into_iter-c-iterator.result.rest.now ≡ c.args.text.now =
    ap chars_rest c.into_iter-c-iterator.ensures.into_iter_gives ∙ c.chars-c-items.ensures.rest in
    (subst IsUtf8 (sym is) c.utf8.text, ap (λ (text : List ℕ). has_control (chars text)) is)

pub returns-then-is_control : goal.returns-then-is_control
returns-then-is_control c =
    let rest = c.next.new.self.rest.now in
    ap (λ (b : Bool). b || has_control (chars rest)) c.if-is_control.ensures
    ∙ sym (has_control-first _ rest _ c.loop-c.invariant.0 c.in-Some.ensures.steps.0) ∙ c.loop-c.invariant.1

pub loop-c-preserved : goal.loop-c-preserved
loop-c-preserved c =
    let rest = c.next.new.self.rest.now in
    let is = c.in-Some.ensures.steps.0 in (
      IsUtf8-past_char _ rest _ c.loop-c.invariant.0 is,
      ap (λ (b : Bool). b || has_control (chars rest)) c.if-is_control.ensures
          ∙ sym (has_control-first _ rest _ c.loop-c.invariant.0 is) ∙ c.loop-c.invariant.1,
    )

pub returns : goal.returns
returns c =
    let empty = nil_from_length _ (c.in-None.ensures.steps.0.0) in
    sym (ap has_control (ap chars empty ∙ chars-nil)) ∙ c.loop-c.invariant.1
