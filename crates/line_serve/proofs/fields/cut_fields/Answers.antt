use Rattle.std.proofs.Common.{rules, ◌≡◌, ℕ, ◌+◌, ◌<◌, List, ◌∷◌, [], ◌++◌, length, take, get_or, not, sym, ◌∙◌, ap, arith, length-set, slice_set, Bor}
use Rattle.std.specs.Bool.{◌==◌}
use borrow.Author.Tests.{tests}
use Rattle.std.specs.Str.Lines.{strip_carriage_return}
use Rattle.std.proofs.lemmas.Iterator.Consumers.{YieldsList-from_filter, YieldsList-turn, YieldsList-end}
use Rattle.std.proofs.lemmas.Iterator.Splits.{YieldsList-from_slice_split}
use Rattle.std.proofs.lemmas.List.{map-append, take_all, take_more, take_more_set, length_push}
use Rattle.line_serve.specs.Fields.{contents, fields, space}
use Rattle.line_serve.proofs.fields.cut_fields.Goals as goal

-- one more field stands at the front
one_more : (out : List (Bor (List ℕ))) (all : List (List ℕ)) (count : ℕ) (x : Bor (List ℕ)) → count < length out → count < length all → x.now ≡ get_or all count x.now
    → contents (take count out) ≡ take count all → contents (take (count + 1) (slice_set out count x)) ≡ take (count + 1) all
one_more out all count x room some is front =
    ap contents (take_more_set out count x room) ∙ map-append (λ field. field.now) (take count out) (x ∷ [])
    ∙ ap (λ (l : List (List ℕ)). l ++ x.now ∷ []) front ∙ ap (λ (f : List ℕ). take count all ++ f ∷ []) is ∙ sym (take_more all count x.now some)

pub loop-part-preserved : goal.loop-part-preserved
loop-part-preserved c =
    let all = fields c.args.line.now in
    let turn =
    YieldsList-turn
    (YieldsList-from_filter _ (λ part. not (length part == 0))
    (YieldsList-from_slice_split _ (λ x. x == space) (strip_carriage_return c.args.line.now) (cc) (cc) (cc) (λ x b q k. search (rules, tests)))
    c.filter-parts.ensures.closure (λ x r q k. search (rules, tests)))
    c.loop-part.yielded _ c.loop-part.yielded_by _ _ c.in-Some.part c.in-Some.is c.next.ensures.steps in
    let some : c.loop-part.count < length all = omega (arith, c.loop-part.invariant.counted, turn.0) in
    let is : c.in-Some.part.now ≡ get_or all c.loop-part.count c.in-Some.part.now = turn.1 ∙ ap (λ (n : ℕ). get_or all n c.in-Some.part.now) (sym c.loop-part.invariant.counted) in
    record {
      within = omega (arith, length-set c.loop-part.out c.loop-part.count c.in-Some.part, c.if-count-out.false);
      counted = omega (arith, c.loop-part.invariant.counted, length_push c.loop-part.yielded c.in-Some.part);
      front = one_more c.loop-part.out all c.loop-part.count c.in-Some.part c.if-count-out.false some is c.loop-part.invariant.front;
    }

pub returns-in-None-clause-front : goal.returns-in-None-clause-front
returns-in-None-clause-front c =
    let end =
    YieldsList-end
    (YieldsList-from_filter _ (λ part. not (length part == 0))
    (YieldsList-from_slice_split _ (λ x. x == space) (strip_carriage_return c.args.line.now) (cc) (cc) (cc) (λ x b q k. search (rules, tests)))
    c.filter-parts.ensures.closure (λ x r q k. search (rules, tests)))
    c.loop-part.yielded _ c.loop-part.yielded_by _ _ c.in-None.is c.next.ensures.steps in
    let all = fields c.args.line.now in
    c.loop-part.invariant.front
    ∙ take_all c.loop-part.count all (omega (arith, c.loop-part.invariant.counted, end.1))
    ∙ sym (take_all (length c.args.out.now) all (omega (arith, c.loop-part.invariant.counted, c.loop-part.invariant.within, c.loop-part.auto.out, end.1)))

pub returns-then-count-out-clause-front : goal.returns-then-count-out-clause-front
returns-then-count-out-clause-front c =
    let full : c.loop-part.count ≡ length c.args.out.now = omega (arith, c.loop-part.invariant.within, c.loop-part.auto.out, c.if-count-out.true) in
    c.loop-part.invariant.front ∙ ap (λ (n : ℕ). take n (fields c.args.line.now)) full
