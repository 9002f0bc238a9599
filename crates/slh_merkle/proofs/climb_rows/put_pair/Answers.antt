use Rattle.std.proofs.Common.{arith, ◌+◌, ◌*◌, ◌≤◌, ◌∙◌, length}
use Rattle.slh_merkle.proofs.Ascents.{part_put, part_before}
use Rattle.slh_merkle.proofs.climb_rows.put_pair.Goals as goal

pub returns : goal.returns
returns g c =
    let n = c.USIZE-n.result in
    let i = c.args.i in
    let fits : (2 * i + 1 + 1) * n ≤ length c.put_part-2.new.out = rw c.USIZE-n.ensures (omega arith) in
    let kept : (2 * i + 1) * n ≤ length c.put_part.new.out = rw c.USIZE-n.ensures (omega arith) in
    let inside : 2 * i * n ≤ length c.args.pairs.now = rw c.USIZE-n.ensures (omega arith) in
    record {
      left = rw (← c.USIZE-n.ensures)
          (part_before n (2 * i + 1) (2 * i) _ _ _ c.put_part-2.ensures.front (omega arith) fits kept
          ∙ part_put n (2 * i) _ _ _ c.put_part.ensures.front (omega (arith, c.as_slice.ensures.len)) kept inside
          ∙ c.as_slice.ensures.value);
      right = rw (← c.USIZE-n.ensures)
          (part_put n (2 * i + 1) _ _ _ c.put_part-2.ensures.front (omega (arith, c.as_slice-2.ensures.len)) fits kept ∙ c.as_slice-2.ensures.value);
      before = λ j below. rw (← c.USIZE-n.ensures)
          (part_before n (2 * i + 1) j _ _ _ c.put_part-2.ensures.front (omega arith) fits kept
          ∙ part_before n (2 * i) j _ _ _ c.put_part.ensures.front below kept inside);
    }
