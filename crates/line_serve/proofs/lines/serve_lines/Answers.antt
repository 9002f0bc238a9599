use Rattle.std.proofs.Common.{sym, ◌∙◌, arith}
use Rattle.std.proofs.lemmas.Grind.{common_steps}
use Rattle.line_serve.proofs.Told.{answers_all}
use Rattle.line_serve.proofs.lines.serve_lines.Goals as goal

pub returns-clause-status : goal.returns-clause-status
returns-clause-status g c = grind (arith, common_steps)

pub returns-clause-served : goal.returns-clause-served
returns-clause-served g c = grind (arith, common_steps)

pub returns-clause-answered : goal.returns-clause-answered
returns-clause-answered g c = λ zero. answers_all _ _ _ _ _ _ c.answer_all.ensures.served (sym c.code.ensures ∙ zero)

pub returns-clause-read_cause : goal.returns-clause-read_cause
returns-clause-read_cause g c = grind (arith, common_steps)

pub returns-clause-write_cause : goal.returns-clause-write_cause
returns-clause-write_cause g c = grind (arith, common_steps)
