use Rattle.std.proofs.Common.{arith}
use Rattle.std.proofs.lemmas.Grind.{common_steps}
use Rattle.ground_tests.proofs.tree_vectors.leaf.Goals as goal

pub slice_bounds-entry-end : goal.slice_bounds-entry-end
slice_bounds-entry-end c = grind (arith, common_steps)

pub slice_bounds-decode_to_slice-end : goal.slice_bounds-decode_to_slice-end
slice_bounds-decode_to_slice-end c = grind (arith, common_steps)

pub slice_bounds-entry-end-2 : goal.slice_bounds-entry-end-2
slice_bounds-entry-end-2 c = grind (arith, common_steps)

pub slice_bounds-leaf-end : goal.slice_bounds-leaf-end
slice_bounds-leaf-end c = grind (arith, common_steps)

pub leaf-requires : goal.leaf-requires
leaf-requires c = grind (arith, common_steps)
