use Rattle.std.proofs.Common.{suc, rules, arith}
use Rattle.std.proofs.lemmas.Grind.{common_steps}
use Rattle.digest_core.proofs.oid.ArcsIterator.next.Goals as goal

pub overflow_cast-result : goal.overflow_cast-result
overflow_cast-result c = let small = (rw c.in_ok-number.ensures.some at c.self.invariant) 0 in search rules

pub invariant_of-self-2 : goal.invariant_of-self-2
invariant_of-self-2 c k = (rw c.in_ok-number.ensures.some at c.self.invariant) (suc k)

pub returns-in-Some : goal.returns-in-Some
returns-in-Some c = grind (arith, common_steps)

pub returns-in-Some-second : goal.returns-in-Some-second
returns-in-Some-second c = grind (arith, common_steps)
