use Rattle.std.proofs.Common.{arith}
use Rattle.std.proofs.lemmas.Grind.{common_steps}
use Rattle.digest_core.proofs.oid.Octets.put_number.Goals as goal

pub returns-then-end-gt-MAX_OCTETS : goal.returns-then-end-gt-MAX_OCTETS
returns-then-end-gt-MAX_OCTETS c = grind (arith, common_steps)

pub returns : goal.returns
returns c = grind (arith, common_steps)
