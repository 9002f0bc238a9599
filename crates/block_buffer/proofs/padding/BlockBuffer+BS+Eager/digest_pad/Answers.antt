use Rattle.std.proofs.Common.{arith}
use Rattle.std.proofs.lemmas.Grind.{common_steps}
use Rattle.block_buffer.proofs.padding.«BlockBuffer+BS+Eager».digest_pad.Goals as goal

pub slice_bounds-head-end-2 : goal.slice_bounds-head-end-2
slice_bounds-head-end-2 g c = grind (arith, common_steps)

pub slice_bounds-hand_padded-end : goal.slice_bounds-hand_padded-end
slice_bounds-hand_padded-end g c = grind (arith, common_steps)

pub hand_padded-requires : goal.hand_padded-requires
hand_padded-requires g c = grind (arith, common_steps)

pub returns : goal.returns
returns g c = grind (arith, common_steps)
