use Rattle.std.proofs.Common.{arith}
use Rattle.std.proofs.lemmas.Grind.{common_steps}
use Rattle.std.proofs.lemmas.Result.{IfOk-from_err}
use Rattle.hybrid_array.proofs.laws.concat_then_split.Goals as goal

pub returns-in_err-both-clause-first : goal.returns-in_err-both-clause-first
returns-in_err-both-clause-first g c = IfOk-from_err _ _ c.from_residual.ensures.0

pub returns-in_err-both-clause-second : goal.returns-in_err-both-clause-second
returns-in_err-both-clause-second g c = IfOk-from_err _ _ c.from_residual.ensures.0

pub returns-clause-first : goal.returns-clause-first
returns-clause-first g c = grind (arith, common_steps)

pub returns-clause-second : goal.returns-clause-second
returns-clause-second g c = grind (arith, common_steps)
