use Rattle.std.proofs.Common.{rules, ◌≡◌, ℕ, ◌+◌, ◌<◌, List, ◌∷◌, [], ◌++◌, length, take, get_or, not, sym, ◌∙◌, ap, arith, Bor}
use Rattle.std.specs.Bool.{◌==◌}
use borrow.Author.Tests.{tests}
use Rattle.std.proofs.lemmas.Iterator.Consumers.{YieldsList-from_filter, YieldsList-turn, YieldsList-end}
use Rattle.std.proofs.lemmas.Iterator.Splits.{YieldsList-from_slice_split}
use Rattle.std.proofs.lemmas.List.{map-append, take_all, take_more, length_push}
use Rattle.line_serve.specs.Fields.{contents}
use Rattle.slh_bytes.specs.Lines.{is_blank, words_of}
use Rattle.slh_bytes.proofs.lines.words.Goals as goal

-- one more word stands at the end
one_more : (old new : List (Bor (List ℕ))) (all : List (List ℕ)) (count : ℕ) (x : Bor (List ℕ)) → new ≡ old ++ x ∷ [] → count < length all → x.now ≡ get_or all count x.now
    → contents old ≡ take count all → contents new ≡ take (count + 1) all
one_more old new all count x pushed some is front =
    ap contents pushed ∙ map-append (λ field. field.now) old (x ∷ [])
    ∙ ap (λ (l : List (List ℕ)). l ++ x.now ∷ []) front ∙ ap (λ (f : List ℕ). take count all ++ f ∷ []) is ∙ sym (take_more all count x.now some)

pub loop-part-preserved : goal.loop-part-preserved
loop-part-preserved c =
    let all = words_of c.args.text.now in
    let count = length c.loop-part.yielded in
    let turn =
    YieldsList-turn
    (YieldsList-from_filter _ (λ part. not (length part == 0))
    (YieldsList-from_slice_split _ is_blank c.args.text.now (cc) (cc) (cc) (λ x b q k. search (rules, tests)))
    c.filter-parts.ensures.closure (λ x r q k. search (rules, tests)))
    c.loop-part.yielded _ c.loop-part.yielded_by _ _ c.in-Some.part c.in-Some.is c.next.ensures.steps in
    let pushed = c.in_ok-push.ensures.items in
    let next : count + 1 ≡ length (c.loop-part.yielded ++ c.in-Some.part ∷ []) = omega (arith, length_push c.loop-part.yielded c.in-Some.part) in
    let grown = ap length pushed in
    record {
      counted = omega (arith, c.loop-part.invariant.counted, grown, next, length_push c.loop-part.all.items c.in-Some.part);
      front = one_more c.loop-part.all.items c.push.new.self.items all count c.in-Some.part pushed turn.0 turn.1 c.loop-part.invariant.front
          ∙ ap (λ (n : ℕ). take n all) next;
    }

pub returns : goal.returns
returns c =
    let end =
    YieldsList-end
    (YieldsList-from_filter _ (λ part. not (length part == 0))
    (YieldsList-from_slice_split _ is_blank c.args.text.now (cc) (cc) (cc) (λ x b q k. search (rules, tests)))
    c.filter-parts.ensures.closure (λ x r q k. search (rules, tests)))
    c.loop-part.yielded _ c.loop-part.yielded_by _ _ c.in-None.is c.next.ensures.steps in
    let all = words_of c.args.text.now in
    c.loop-part.invariant.front ∙ take_all (length c.loop-part.yielded) all (omega (arith, end.1))
