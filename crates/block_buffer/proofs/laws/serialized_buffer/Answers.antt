use Rattle.std.proofs.Common.{arith}
use Rattle.std.proofs.lemmas.Grind.{common_steps, elements}
use Rattle.block_buffer.proofs.laws.serialized_buffer.Goals as goal

pub deserialize-requires : goal.deserialize-requires
deserialize-requires g c = grind (arith, common_steps)

pub unreachable-requires : goal.unreachable-requires
unreachable-requires g c = grind (arith, common_steps)

pub returns : goal.returns
returns g c = grind (arith, elements)
