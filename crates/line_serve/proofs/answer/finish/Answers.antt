use Rattle.std.proofs.Common.{sym, arith}
use Rattle.std.proofs.lemmas.Grind.{common_steps}
use Rattle.line_serve.specs.Lines.{unfinished}
use Rattle.line_serve.proofs.Fronts.{all_taken}
use Rattle.line_serve.proofs.Runs.{takes_after, replies_to-last}
use Rattle.line_serve.proofs.answer.finish.Goals as goal

pub returns-then-is_empty : goal.returns-then-is_empty
returns-then-is_empty g c = grind (arith, common_steps)

pub returns-in_err-answer : goal.returns-in_err-answer
returns-in_err-answer g c = grind (arith, common_steps)

pub returns : goal.returns
returns g c = record {
  bytes = λ p start at.
      takes_after c.put.result start _ _ _ _ _ (all_taken start _ _ at.replied) c.put.ensures.bytes
      (rw (c.as_slice.ensures, c.in_ok-answer.ensures.ok (unfinished p) at.pending_is, c.new-reply.ensures) (replies_to-last _ p (sym (c.if-is_empty.ensures (unfinished p) at.pending_is))));
  cause = grind (arith, common_steps);
}
