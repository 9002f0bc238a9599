use Rattle.std.proofs.Common.{arith}
use Rattle.std.proofs.lemmas.Grind.{common_steps}
use Rattle.slh_merkle.proofs.xmss.HashTreeLeaves.write_eights.Goals as goal

pub leaves_by_eight-requires-clause-inside : goal.leaves_by_eight-requires-clause-inside
leaves_by_eight-requires-clause-inside g c = c.requires.inside

pub leaves_by_eight-requires-clause-count : goal.leaves_by_eight-requires-clause-count
leaves_by_eight-requires-clause-count g c = grind (arith, common_steps)

pub leaves_by_eight-requires-clause-whole : goal.leaves_by_eight-requires-clause-whole
leaves_by_eight-requires-clause-whole g c = grind (arith, common_steps)

pub leaves_by_eight-requires-clause-room : goal.leaves_by_eight-requires-clause-room
leaves_by_eight-requires-clause-room g c = c.requires.room

pub returns : goal.returns
returns g c = record { leaves = c.leaves_by_eight.ensures.leaves; cost = c.leaves_by_eight.ensures.cost }
