use Rattle.std.proofs.Common.{arith}
use Rattle.std.proofs.lemmas.Grind.{common_steps}
use Rattle.ground_tests.proofs.hmac_hkdf.derives_row.Goals as goal

pub slice_bounds-out-end : goal.slice_bounds-out-end
slice_bounds-out-end c = grind (arith, common_steps)

pub slice_bounds-expand-end : goal.slice_bounds-expand-end
slice_bounds-expand-end c = grind (arith, common_steps)

pub expand-requires : goal.expand-requires
expand-requires c = grind (arith, common_steps)

pub slice_bounds-out-end-in-Ok : goal.slice_bounds-out-end-in-Ok
slice_bounds-out-end-in-Ok c = grind (arith, common_steps)

pub slice_bounds-hash-end : goal.slice_bounds-hash-end
slice_bounds-hash-end c = grind (arith, common_steps)

pub hash-requires : goal.hash-requires
hash-requires c = grind (arith, common_steps)
