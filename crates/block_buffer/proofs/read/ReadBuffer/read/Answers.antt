use Rattle.std.proofs.Common.{◌≡◌, ◌+◌, ◌-◌, ◌<◌, ◌≤◌, length, arith}
use Rattle.std.proofs.lemmas.Grind.{common_steps}
use Rattle.std.proofs.lemmas.List.{drop_all}
use Rattle.std.proofs.lemmas.Slice.{take-put_mid}
use borrow.Rule.Slice.PartMut.{put_mid}
use Rattle.block_buffer.proofs.Reading.{cached, reads_more, reads_none, unread_none}
use Rattle.block_buffer.proofs.read.ReadBuffer.read.Goals as goal

pub each_block-init : goal.each_block-init
each_block-init g c =
    let low : 1 ≤ g.BS.ArraySize.USIZE = omega arith in
    let fits : c.copy_cached-at.result ≤ length c.args.self.now = omega arith in
    let len : length c.copy_cached-at.new.out ≡ length c.args.out.now = rw c.copy_cached-at.ensures.out (grind (arith, common_steps)) in
    record {
      within = omega (arith, len);
      len = len;
      reads = reads_none _ low _ _ _ _ (rw (c.copy_cached-at.ensures.out, c.copy_cached-at.ensures.left) (cached c.copy_cached-at.result c.args.self.now c.args.out.now fits));
      empty = λ more.
          let all : length c.args.self.now ≤ c.copy_cached-at.result = omega (arith, more, len) in
          rw c.copy_cached-at.ensures.left (drop_all _ _ all);
    }

pub write_block-requires : goal.write_block-requires
write_block-requires g c = grind (arith, common_steps)

pub each_block-preserved : goal.each_block-preserved
each_block-preserved g c =
    let low : 1 ≤ g.BS.ArraySize.USIZE = omega arith in
    let more : c.each_block.at < length c.each_block.out = omega arith in
    let count : length c.write_block.new.out ≡ c.min.result = grind (arith, common_steps) in
    let some : 0 < length c.write_block.new.out = omega (arith, count) in
    let before = rw (c.each_block.invariant.empty more) at c.each_block.invariant.reads in
    let gives = c.write_block.ensures.gives (grind (arith, common_steps)) in
    let whole : length c.write_block.new.out + length c.write_block.new.self ≡ g.BS.ArraySize.USIZE = grind (arith, common_steps) in
    let read = take-put_mid c.each_block.at (c.each_block.at + c.min.result - c.each_block.at) c.each_block.out c.write_block.new.out (c.each_block.at + c.min.result) (omega (arith, count)) c.each_block.invariant.within in
    let len : length (put_mid c.each_block.at (c.each_block.at + c.min.result - c.each_block.at) c.each_block.out c.write_block.new.out) ≡ length c.args.out.now = grind (arith, common_steps) in
    record {
      within = grind (arith, common_steps);
      len = len;
      reads = rw read (reads_more _ low _ _ _ _ _ _ _ some whole before gives);
      empty = λ left. unread_none c.write_block.new.out c.write_block.new.self (omega (arith, left, len, whole, count));
    }

pub returns : goal.returns
returns g c = grind (arith, common_steps)
