use Rattle.std.proofs.Common.{arith}
use Rattle.std.proofs.lemmas.Grind.{common_steps}
use Rattle.line_serve.proofs.Runs.{on_any_err, on_ok_moves, stop_moves, stop_breaks}
use Rattle.line_serve.proofs.answer.feed.Goals as goal

pub returns-in_err-flush : goal.returns-in_err-flush
returns-in_err-flush g c = record {
  ok = grind (arith, common_steps);
  err = on_any_err c.from_residual.result
      (rw (c.new-waiting.ensures, c.flush.ensures.cleared) at (stop_breaks _ _ _ _ _ _ _ _ _ c.collect-collected.ensures.stops c.in_err-flush.ensures.err));
  cause = grind (arith, common_steps);
}

pub returns : goal.returns
returns g c = record {
  ok = rw (c.new-waiting.ensures, c.flush.ensures.cleared) at (on_ok_moves _ c.collect-collected.result _ _ _ _ _ _ _ _ _ c.collect-collected.ensures.ok c.in_ok-flush.ensures.ok);
  err = on_any_err c.collect-collected.result
      (rw (c.new-waiting.ensures, c.flush.ensures.cleared) at (stop_moves _ _ _ _ _ _ _ _ _ c.collect-collected.ensures.stops c.in_ok-flush.ensures.ok));
  cause = grind (arith, common_steps);
}
