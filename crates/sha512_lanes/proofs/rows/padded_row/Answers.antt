use Rattle.std.proofs.Common.{arith, length, refl, ◌-◌}
use Rattle.sha512_lanes.proofs.Ending.{padded_is}
use Rattle.sha512_lanes.proofs.LongRows.{row_end}
use Rattle.sha512_lanes.proofs.rows.padded_row.Goals as goal

pub returns : goal.returns
returns c =
    let row = c.args.row.now in
    let written = rw c.block_count-end.ensures.value at c.put_length.ensures in
    padded_is (row_end (length row) - 16) (2303 - length row) row _ _ c.requires (omega (arith, c.requires))
    (omega (arith, c.requires)) refl (omega (arith, c.requires)) (rw (c.put_ended.ensures refl) at written)
