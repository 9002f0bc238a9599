use Rattle.std.proofs.Common.{◌≡◌, ◌+◌, ◌-◌, ◌*◌, arith, refl, sym}
use Rattle.sha2.proofs.Absorbing512.{hash_after_next}
use Rattle.sha512_lanes.proofs.Batches.{none_yet}
use Rattle.sha512_lanes.proofs.blocks.absorb_each.Goals as goal

pub each_block-init : goal.each_block-init
each_block-init c = sym (none_yet c.args.state.now c.args.blocks.now)

pub each_block-preserved : goal.each_block-preserved
each_block-preserved c =
    let i = c.each_block.i in
    let width : i * 128 + 128 - i * 128 ≡ 128 = omega arith in
    rw (c.compress.ensures, c.each_block.invariant, width, hash_after_next c.args.state.now c.args.blocks.now i) refl
