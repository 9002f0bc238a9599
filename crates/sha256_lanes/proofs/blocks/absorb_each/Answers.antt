use Rattle.std.proofs.Common.{◌≡◌, ◌+◌, ◌-◌, ◌*◌, arith, refl}
use Rattle.sha256_lanes.specs.Sha256.{fold_blocks}
use Rattle.sha256_lanes.proofs.Folding.{fold_blocks_next}
use Rattle.sha256_lanes.proofs.blocks.absorb_each.Goals as goal

pub each_block-init : goal.each_block-init
unfolding fold_blocks
each_block-init c = refl

pub each_block-preserved : goal.each_block-preserved
each_block-preserved c =
    let i = c.each_block.i in
    let width : 64 * i + 64 - 64 * i ≡ 64 = omega arith in
    rw (c.compress.ensures, c.each_block.invariant, width, fold_blocks_next c.args.state.now c.args.blocks.now i) refl
