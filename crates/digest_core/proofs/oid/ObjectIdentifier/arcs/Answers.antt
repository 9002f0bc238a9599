use Rattle.std.proofs.Common.{suc}
use Rattle.digest_core.proofs.oid.ObjectIdentifier.arcs.Goals as goal

pub of_number-requires-clause-second : goal.of_number-requires-clause-second
of_number-requires-clause-second c = (rw (← c.octets.ensures.value, c.in-Some.ensures.some) at c.octets.ensures.arcs) 1

pub of_number-requires-clause-rest : goal.of_number-requires-clause-rest
of_number-requires-clause-rest c k = (rw (← c.octets.ensures.value, c.in-Some.ensures.some) at c.octets.ensures.arcs) (suc (suc k))
