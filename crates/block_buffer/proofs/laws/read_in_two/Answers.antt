use Rattle.std.proofs.Common.{◌≡◌, ◌≤◌, length, arith}
use Rattle.block_buffer.proofs.Reading.{blocks_both, blocks_grow, reads_both, reads_lengths, room_left, room_less}
use Rattle.block_buffer.proofs.laws.read_in_two.Goals as goal

pub read-requires : goal.read-requires
read-requires g c =
    let low : 1 ≤ g.BS.ArraySize.USIZE = omega arith in
    room_less _ _ _ (blocks_grow _ low _ _ (omega arith)) c.requires

pub read-requires-2 : goal.read-requires-2
read-requires-2 g c =
    let low : 1 ≤ g.BS.ArraySize.USIZE = omega arith in
    let len : length c.read.new.out ≡ length c.args.first.now = omega arith in
    let lengths = rw len at (reads_lengths _ low _ _ _ _ _ c.read.ensures) in
    let sum = blocks_both _ low (length c.args.buffer.now) (length c.args.first.now) (length c.read.new.self) (length c.args.second.now) (omega arith) lengths in
    room_left _ _ _ _ (rw len at c.read.ensures.gives.room) (rw sum at c.requires)

pub returns : goal.returns
returns g c =
    reads_both _ (omega arith) _ _ _ _ _ _ _ _ (omega arith) c.read.ensures c.read-2.ensures
