use Rattle.std.proofs.Common.{◌≡◌, ◌&&◌, true, false, refl, sym, ◌∙◌, arith}
use Rattle.std.specs.Str.{bytes_eq}
use Rattle.merkle_tree.proofs.WaySteps.{same_inputs}
use Rattle.merkle_clash.proofs.inputs.are_same.Goals as goal

pub returns-then-eq : goal.returns-then-eq
returns-then-eq c =
    let f = c.first.inside in
    let s = c.second.inside in
    let both : bytes_eq c.args.first.now c.args.second.now ≡ (bytes_eq f.left s.left && bytes_eq f.right s.right) = rw (← c.first.view_is, ← c.second.view_is) (same_inputs f.left f.right s.left s.right (omega arith)) in
    let left : bytes_eq f.left s.left ≡ true = sym c.eq.ensures ∙ c.if-eq.true in
    c.eq-then-eq.ensures ∙ sym (both ∙ rw left refl)

pub returns-else-eq : goal.returns-else-eq
returns-else-eq c =
    let f = c.first.inside in
    let s = c.second.inside in
    let both : bytes_eq c.args.first.now c.args.second.now ≡ (bytes_eq f.left s.left && bytes_eq f.right s.right) = rw (← c.first.view_is, ← c.second.view_is) (same_inputs f.left f.right s.left s.right (omega arith)) in
    let left : bytes_eq f.left s.left ≡ false = sym c.eq.ensures ∙ c.if-eq.false in
    c.if-eq.false ∙ sym (both ∙ rw left refl)
