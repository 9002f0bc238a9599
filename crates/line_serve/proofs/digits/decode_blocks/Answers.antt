use Rattle.std.proofs.Common.{◌≡◌, ◌≤◌, ◌+◌, ◌-◌, arith, length, refl}
use Rattle.std.proofs.lemmas.Grind.{common_steps}
use Rattle.std.proofs.lemmas.Slice.{take-put_mid}
use borrow.Rule.Slice.PartMut.{put_mid}
use Rattle.line_serve.proofs.PairLanes.{block_added}
use Rattle.line_serve.proofs.digits.decode_blocks.Goals as goal

pub decode_block-requires : goal.decode_block-requires
decode_block-requires c = grind (arith, common_steps)

pub returns-then-not-decode_block : goal.returns-then-not-decode_block
returns-then-not-decode_block c = grind (arith, common_steps)

pub loop-out-preserved : goal.loop-out-preserved
loop-out-preserved c =
    let done = c.loop-out.done in
    let old = c.loop-out.out in
    let block = c.decode_block.new.out in
    let room : done + 16 ≤ length old = omega (arith, c.loop-out-test.true, c.loop-out.invariant.within) in
    let count : length block ≡ 16 = omega arith in
    let grown = take-put_mid done (done + 16 - done) old block (done + 16) (omega (arith, count)) c.loop-out.invariant.within in
    let len : length (put_mid done (done + 16 - done) old block) ≡ length c.args.out.now = grind (arith, common_steps) in
    record {
      within = omega (arith, len, room, c.loop-out.invariant.same);
      same = len;
      bytes = block_added c.args.digits.now old _ block done c.loop-out.invariant.within grown c.loop-out.invariant.bytes (c.if-not-decode_block.ensures refl);
    }

pub returns : goal.returns
returns c = grind (arith, common_steps)
