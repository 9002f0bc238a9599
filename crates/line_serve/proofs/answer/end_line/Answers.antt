use Rattle.std.proofs.Common.{arith}
use Rattle.std.proofs.lemmas.Grind.{common_steps}
use Rattle.line_serve.specs.Lines.{unfinished}
use Rattle.line_serve.proofs.Runs.{line_answered}
use Rattle.line_serve.proofs.answer.end_line.Goals as goal

pub returns-in_err-extend : goal.returns-in_err-extend
returns-in_err-extend g c = grind (arith, common_steps)

pub returns-in_err-answer : goal.returns-in_err-answer
returns-in_err-answer g c = grind (arith, common_steps)

pub returns : goal.returns
returns g c = record {
  ok = λ taken p start at.
      line_answered _ p c.args.bytes.now start _ _ _ _ _ c.requires at (c.in_ok-answer.ensures.ok _ (c.in_ok-extend.ensures (unfinished p) at.pending_is)) c.clear.ensures;
  err = grind (arith, common_steps);
}
