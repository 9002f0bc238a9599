use Rattle.std.proofs.Common.{◌≡◌, ◌≤◌, length}
use Rattle.std.specs.Vec.{vec_capacity}
use Rattle.hybrid_array.specs.Calls.{Answers}
use Rattle.hybrid_array.proofs.from_fn.answers_of.Given as goal

-- the items so far are what the closure answered
abbrev pub invariant-loop-i : goal.invariant-loop-i
invariant-loop-i g l = record {
  callable : goal.F-IsAlwaysCallable g l.f;
  room : l.count ≤ vec_capacity l.answers;
  count : length l.answers.items ≡ l.i;
  made : Answers (goal.F-step g) 0 l.fn.f l.answers.items l.f;
}
