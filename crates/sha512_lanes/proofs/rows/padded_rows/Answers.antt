use Rattle.std.proofs.Common.{◌*◌, arith}
use Rattle.sha512_lanes.proofs.LongRows.{row_of}
use Rattle.word_lanes.proofs.Vectors.{below_four}
use Rattle.sha512_lanes.proofs.rows.padded_rows.Goals as goal

pub returns-clause-rows : goal.returns-clause-rows
returns-clause-rows c =
    let rows = c.args.rows.now in
    let len = c.args.len in
    below_four _
    (row_of rows c.padded_row.result len 0 0 len c.requires.whole (omega arith) (omega arith) (omega arith) c.padded_row.ensures)
    (row_of rows c.padded_row-2.result len 1 len _ c.requires.whole (omega arith) (omega arith) (omega arith) c.padded_row-2.ensures)
    (row_of rows c.padded_row-3.result len 2 (2 * len) _ c.requires.whole (omega arith) (omega arith) (omega arith) c.padded_row-3.ensures)
    (row_of rows c.padded_row-4.result len 3 (3 * len) _ c.requires.whole (omega arith) (omega arith) (omega (arith, c.requires.whole)) c.padded_row-4.ensures)

pub returns-clause-long : goal.returns-clause-long
returns-clause-long c =
    below_four _ (omega arith) (omega arith) (omega arith) (omega arith)
