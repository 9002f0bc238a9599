use Rattle.std.proofs.Common.{◌≡◌, ◌+◌}
use Rattle.slh_hash.proofs.pairs.count_steps.Given as goal

abbrev pub invariant-each_step : goal.invariant-each_step
invariant-each_step g l = l.steps ≡ l.initial.steps + l.n
