use Rattle.std.proofs.Common.{arith, sym, ◌∙◌, take-append-drop, ap, take, ◌+◌, ◌++◌, List, ℕ}
use Rattle.std.proofs.lemmas.Grind.{common_steps}
use Rattle.line_serve.proofs.Fronts.{to_end}
use Rattle.line_serve.proofs.Found.{line_found, none_found}
use Rattle.line_serve.proofs.Runs.{on_then, on_moves, stop_here, stop_breaks, on_grown}
use Rattle.line_serve.proofs.answer.collect.Goals as goal

pub end_line-requires : goal.end_line-requires
end_line-requires g c = (line_found c.args.piece.now c.loop-at.done c.in-Some.at (sym c.in-Some.ensures.value)).none

pub returns-in_err-end_line : goal.returns-in_err-end_line
returns-in_err-end_line g c = record {
  ok = grind (arith, common_steps);
  stops = rw c.in_err-end_line.ensures.err
      (stop_here _ _ _ _ _ _ _ _ _ _ c.loop-at.invariant.on (sym (take-append-drop c.loop-at.done c.args.piece.now)));
  cause = grind (arith, common_steps);
}

pub returns-in_err-flush_long : goal.returns-in_err-flush_long
returns-in_err-flush_long g c = record {
  ok = grind (arith, common_steps);
  stops = let line = line_found c.args.piece.now c.loop-at.done c.in-Some.at (sym c.in-Some.ensures.value) in
      stop_breaks _ _ _ _ _ _ _ _ _
      (stop_here _ _ _ _ _ _ _ _ _ _ (on_then _ _ _ _ _ _ _ _ _ _ _ _ _ c.loop-at.invariant.on (c.in_ok-end_line.ensures.ok _) line.front) (sym (take-append-drop (c.loop-at.done + (c.in-Some.at + 1)) c.args.piece.now)))
      c.in_err-flush_long.ensures.err;
  cause = grind (arith, common_steps);
}

pub loop-at-preserved : goal.loop-at-preserved
loop-at-preserved g c =
    let line = line_found c.args.piece.now c.loop-at.done c.in-Some.at (sym c.in-Some.ensures.value) in
    record {
      within = line.within;
      on = on_moves _ _ _ _ _ _ _ _ _ _ (on_then _ _ _ _ _ _ _ _ _ _ _ _ _ c.loop-at.invariant.on (c.in_ok-end_line.ensures.ok _) line.front) c.in_ok-flush_long.ensures.ok;
      later = omega (arith, c.loop-at.invariant.later, c.in_ok-flush_long.ensures.cause.later);
    }

pub returns-in_err-extend : goal.returns-in_err-extend
returns-in_err-extend g c = record {
  ok = grind (arith, common_steps);
  stops = stop_here _ _ _ _ _ _ _ _ _ _ c.loop-at.invariant.on (sym (take-append-drop c.loop-at.done c.args.piece.now));
  cause = grind (arith, common_steps);
}

pub returns : goal.returns
returns g c = record {
  ok = let none = none_found _ (sym c.in_default.ensures.value) in
      on_then _ _ _ _ _ _ _ _ _ _ _ _ _ c.loop-at.invariant.on (on_grown _ _ _ _ _ _ none (λ line at. c.in_ok-extend.ensures line at))
      (sym (take-append-drop c.loop-at.done c.args.piece.now) ∙ ap (λ (l : List ℕ). take c.loop-at.done c.args.piece.now ++ l) (sym (to_end c.args.piece.now c.loop-at.done)));
  stops = stop_here _ _ _ _ _ _ _ _ _ _ c.loop-at.invariant.on (sym (take-append-drop c.loop-at.done c.args.piece.now));
  cause = grind (arith, common_steps);
}
