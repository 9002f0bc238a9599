use Rattle.std.proofs.Common.{rules, ◌≡◌, ◌<◌, length, get_or, sym, ◌∙◌, ap, arith, inl, inr}
use Rattle.std.specs.Bool.{◌==◌}
use borrow.Author.Tests.{tests}
use Rattle.std.proofs.lemmas.Iterator.Consumers.{YieldsList-turn, YieldsList-end}
use Rattle.std.proofs.lemmas.Iterator.Splits.{YieldsList-from_slice_split}
use Rattle.std.proofs.lemmas.List.{length_push, take_all}
use Rattle.slh_ring.specs.PathTexts.{all_numbers, path_parts, slash}
use Rattle.slh_ring.proofs.Parts.{numbers_more, numbers_none}
use Rattle.slh_ring.proofs.text.read_numbers.Goals as goal

pub returns-then-count-ge-MAX_NUMBERS : goal.returns-then-count-ge-MAX_NUMBERS
returns-then-count-ge-MAX_NUMBERS c =
    let turn =
    YieldsList-turn (YieldsList-from_slice_split _ (λ x. x == slash) c.args.text.now (cc) (cc) (cc) (λ x b q k. search (rules, tests)))
    c.loop-part.yielded _ c.loop-part.yielded_by _ _ c.in-Some.part c.in-Some.is c.next.ensures.steps in
    inr (omega (arith, c.loop-part.invariant.counted, c.if-count-ge-MAX_NUMBERS.true, turn.0))

pub returns-in_err-out : goal.returns-in_err-out
returns-in_err-out c =
    let all = path_parts c.args.text.now in
    let turn =
    YieldsList-turn (YieldsList-from_slice_split _ (λ x. x == slash) c.args.text.now (cc) (cc) (cc) (λ x b q k. search (rules, tests)))
    c.loop-part.yielded _ c.loop-part.yielded_by _ _ c.in-Some.part c.in-Some.is c.next.ensures.steps in
    let some : c.loop-part.count < length all = omega (arith, c.loop-part.invariant.counted, turn.0) in
    let here : c.in-Some.part.now ≡ get_or all c.loop-part.count c.in-Some.part.now =
    turn.1 ∙ ap (λ n. get_or all n c.in-Some.part.now) (sym c.loop-part.invariant.counted) in
    rw c.from_residual.ensures (inl (numbers_none all c.in-Some.part.now c.loop-part.count some here (sym c.in_err-out.ensures)))

pub loop-part-preserved : goal.loop-part-preserved
loop-part-preserved c =
    let all = path_parts c.args.text.now in
    let turn =
    YieldsList-turn (YieldsList-from_slice_split _ (λ x. x == slash) c.args.text.now (cc) (cc) (cc) (λ x b q k. search (rules, tests)))
    c.loop-part.yielded _ c.loop-part.yielded_by _ _ c.in-Some.part c.in-Some.is c.next.ensures.steps in
    let some : c.loop-part.count < length all = omega (arith, c.loop-part.invariant.counted, turn.0) in
    let here : c.in-Some.part.now ≡ get_or all c.loop-part.count c.in-Some.part.now =
    turn.1 ∙ ap (λ n. get_or all n c.in-Some.part.now) (sym c.loop-part.invariant.counted) in
    record {
      few = omega (arith, c.if-count-ge-MAX_NUMBERS.false);
      counted = omega (arith, c.loop-part.invariant.counted, length_push c.loop-part.yielded c.in-Some.part);
      front = numbers_more all c.loop-part.out c.in-Some.part.now c.loop-part.count c.in_ok-out.field-0 (search rules) some here (sym c.in_ok-out.ensures) c.loop-part.invariant.front;
    }

pub returns : goal.returns
returns c =
    let all = path_parts c.args.text.now in
    let end =
    YieldsList-end (YieldsList-from_slice_split _ (λ x. x == slash) c.args.text.now (cc) (cc) (cc) (λ x b q k. search (rules, tests)))
    c.loop-part.yielded _ c.loop-part.yielded_by _ _ c.in-None.is c.next.ensures.steps in
    let whole : length all ≡ c.loop-part.count = omega (arith, c.loop-part.invariant.counted, end.1) in (
      c.loop-part.invariant.few,
      whole,
      ap all_numbers (sym (take_all c.loop-part.count all (omega (arith, whole)))) ∙ c.loop-part.invariant.front,
    )
