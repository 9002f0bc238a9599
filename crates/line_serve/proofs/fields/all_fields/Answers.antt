use Rattle.std.proofs.Common.{arith, length-drop}
use Rattle.std.proofs.lemmas.Grind.{common_steps}
use Rattle.line_serve.proofs.FieldCuts.{cut_last, cut_on}
use Rattle.line_serve.proofs.fields.all_fields.Goals as goal

pub returns-in_err-keep : goal.returns-in_err-keep
returns-in_err-keep c = grind (arith, common_steps)

pub loop-at-preserved : goal.loop-at-preserved
loop-at-preserved c = record {
  within = omega (arith, c.in-Some.ensures.inside, length-drop c.loop-at.done c.without_return-text.result.now);
  cut = cut_on _ _ _ c.without_return-text.result.now c.loop-at.done c.in-Some.at c.in-Some.ensures.value c.in_ok-keep.ensures c.loop-at.invariant.cut;
}

pub returns-in_err-keep-2 : goal.returns-in_err-keep-2
returns-in_err-keep-2 c = grind (arith, common_steps)

pub returns : goal.returns
returns c =
    cut_last _ _ _ c.without_return-text.result.now c.loop-at.done c.in_default.ensures.value c.in_ok-keep-2.ensures c.loop-at.invariant.cut
