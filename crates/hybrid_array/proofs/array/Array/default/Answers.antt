use Rattle.std.proofs.Common.{arith}
use Rattle.std.proofs.lemmas.Grind.{common_steps}
use Rattle.std.proofs.lemmas.Result.{IfOk-from_err}
use Rattle.hybrid_array.proofs.array.Array.default.Goals as goal

pub returns-in_err-items-clause-len : goal.returns-in_err-items-clause-len
returns-in_err-items-clause-len g c = IfOk-from_err _ _ c.from_residual.ensures.0

pub returns-in_err-items-clause-value : goal.returns-in_err-items-clause-value
returns-in_err-items-clause-value g c = IfOk-from_err _ _ c.from_residual.ensures.0

pub loop-i-preserved : goal.loop-i-preserved
loop-i-preserved g c = record {
  room = rw c.push_reserved.ensures.capacity c.loop-i.invariant.room;
  count = rw c.push_reserved.ensures.items (grind (arith, common_steps));
  made = rw c.push_reserved.ensures.items (grind (arith, common_steps));
}

pub returns : goal.returns
returns g c = grind (arith, common_steps)
