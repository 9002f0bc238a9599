use Rattle.std.proofs.Common.{◌≡◌, ◌+◌, ◌-◌, ◌≤◌, length, arith}
use Rattle.block_buffer.proofs.Serials.{written_last}
use Rattle.block_buffer.proofs.read.ReadBuffer.holding.Goals as goal

pub returns : goal.returns
returns g c =
    let total : g.BS.ArraySize.USIZE - length c.args.unread.now + length c.args.unread.now ≡ g.BS.ArraySize.USIZE = omega arith in
    let fits : g.BS.ArraySize.USIZE - length c.args.unread.now ≤ 255 = omega arith in
    rw (c.USIZE.ensures, c.USIZE-2.ensures) (written_last g.BS.ArraySize.USIZE (g.BS.ArraySize.USIZE - length c.args.unread.now) _ _ _ c.copy_from_slice.ensures.after total fits)
