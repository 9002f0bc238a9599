use Rattle.std.proofs.Common.{◌+◌, ◌*◌, ◌-◌, ◌≡◌, ◌∙◌, arith, refl}
use Rattle.sha256_lanes.specs.Sha256.{padding}
use Rattle.sha256_lanes.proofs.LongRows.{block_before_last, block_of_length, last_block, rest_of, whole_block}
use Rattle.sha256_lanes.proofs.rows.block_at.Goals.{then-start-row-2, else-start-row-2}
use Rattle.sha256_lanes.proofs.rows.block_at.Goals as goal

pub returns-then-start-row : goal.returns-then-start-row
returns-then-start-row c =
    let b = c.args.b in
    let row = c.args.row.now in
    let width : 64 * b + 64 - 64 * b ≡ 64 = omega arith in
    c.copy_from_slice.ensures.after ∙ rw width (whole_block row (padding c.args.total) (64 * b) (omega (arith, c.if-start-row.true)))

pub returns-then-row-start : goal.returns-then-row-start
returns-then-row-start c =
    let b = c.args.b in
    let row = c.args.row.now in
    let total = c.args.total in
    elim c.if-start-row-2.branch [
      | then-start-row-2 w ↦
          last_block row c.put_length.new.block total b c.requires.aligned (omega (arith, w.if-start-row-2)) (omega (arith, c.if-row-start.true))
          (rw (w.block-is, w.put_ended.ensures refl, rest_of row (64 * b)) at c.put_length.ensures)
      | else-start-row-2 w ↦
          block_of_length row c.put_length.new.block total b c.requires.aligned (omega (arith, w.if-start-row-2)) c.requires.inside
          (rw w.block-is at c.put_length.ensures)
    ]

pub returns-else-row-start : goal.returns-else-row-start
returns-else-row-start c =
    let b = c.args.b in
    let row = c.args.row.now in
    elim c.if-start-row-2.branch [
      | then-start-row-2 w ↦
          block_before_last row c.if-start-row-2.block c.args.total b c.requires.aligned (omega (arith, w.if-start-row-2)) (omega (arith, c.if-start-row.false))
          (omega (arith, c.if-row-start.false)) (rw (rest_of row (64 * b)) at (w.block-is ∙ w.put_ended.ensures refl))
      | else-start-row-2 w ↦ absurd (omega (arith, w.if-start-row-2, c.if-row-start.false, c.requires.inside))
    ]
