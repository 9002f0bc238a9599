use Rattle.std.proofs.Common.{◌∙◌, List, ℕ, nat_eq, sym, ap}
use Rattle.std.specs.List.{starts_with}
use Rattle.slh_bytes.proofs.Rows.{rest_is}
use Rattle.slh_bytes.specs.Places.{first_place}
use Rattle.slh_bytes.proofs.Searches.{not_moved, searched_on, found_here, found_nowhere}
use Rattle.slh_bytes.proofs.places.place_of.Goals as goal

pub loop-at-init : goal.loop-at-init
loop-at-init c = not_moved (first_place c.args.mark.now c.args.text.now)

pub returns-then-starts_with-clause-value : goal.returns-then-starts_with-clause-value
returns-then-starts_with-clause-value c =
    let rest = rest_is c.loop-at.at c.args.text.now in
    let same = ap (λ (t : List ℕ). starts_with nat_eq t c.args.mark.now) rest in
    let passed = sym same ∙ sym c.starts_with.ensures.value ∙ c.if-starts_with.true in
    sym (c.loop-at.invariant ∙ found_here c.args.mark.now c.args.text.now c.loop-at.at c.loop-at-test.true passed)

pub loop-at-preserved : goal.loop-at-preserved
loop-at-preserved c =
    let rest = rest_is c.loop-at.at c.args.text.now in
    let same = ap (λ (t : List ℕ). starts_with nat_eq t c.args.mark.now) rest in
    let failed = sym same ∙ sym c.starts_with.ensures.value ∙ c.if-starts_with.false in
    c.loop-at.invariant ∙ searched_on c.args.mark.now c.args.text.now c.loop-at.at c.loop-at-test.true failed

pub returns-clause-value : goal.returns-clause-value
returns-clause-value c =
    sym (c.loop-at.invariant ∙ found_nowhere c.args.mark.now c.args.text.now c.loop-at.at c.loop-at-test.false)
