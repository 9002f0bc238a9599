use Rattle.std.proofs.Common.{arith, below_more, ◌≡◌, ◌+◌, ◌*◌, ◌≤◌, ◌∙◌, ap, length, sym, take}
use Rattle.std.proofs.lemmas.List.{length-take-le}
use Rattle.slh_merkle.proofs.Ascents.{part_put, part_before}
use Rattle.slh_merkle.proofs.Layers.{part_fits}
use Rattle.slh_merkle.proofs.climb_rows.opened_secrets.Goals as goal

pub piece-opened-requires : goal.piece-opened-requires
piece-opened-requires g c =
    part_fits c.loop-i.i g.P.ForsSizes.K c.opened_len-size.result _ (omega arith) (rw c.opened_len-size.ensures.value c.requires.whole)

pub slice_bounds-put_part-end : goal.slice_bounds-put_part-end
slice_bounds-put_part-end g c =
    let n = c.USIZE-n.result in
    let opened = c.piece-opened.result.now in
    let room : n ≤ length opened = rw (c.piece-opened.ensures.len, c.opened_len-size.ensures.value, c.USIZE-n.ensures) (omega arith) in
    sym (length-take-le n opened room)

pub put_part-requires : goal.put_part-requires
put_part-requires g c =
    let n = c.USIZE-n.result in
    let opened = c.piece-opened.result.now in
    let room : n ≤ length opened = rw (c.piece-opened.ensures.len, c.opened_len-size.ensures.value, c.USIZE-n.ensures) (omega arith) in
    record {
      fits = part_fits c.loop-i.i g.P.ForsSizes.K n _ (omega arith) (rw c.USIZE-n.ensures (omega (arith, c.requires.room)));
      len = length-take-le n opened room;
    }

pub loop-i-init : goal.loop-i-init
loop-i-init g c = λ k below. absurd (omega (arith, below))

pub returns : goal.returns
returns g c = λ k low.
    (rw (c.USIZE-n.ensures, c.opened_len-size.ensures.value) at (c.loop-i.invariant k (omega (arith, low))))

pub loop-i-preserved : goal.loop-i-preserved
loop-i-preserved g c =
    let n = c.USIZE-n.result in
    let i = c.loop-i.i in
    let opened = c.piece-opened.result.now in
    let room : n ≤ length opened = rw (c.piece-opened.ensures.len, c.opened_len-size.ensures.value, c.USIZE-n.ensures) (omega arith) in
    let size : length (take n opened) ≡ n = length-take-le n opened room in
    let fits : (i + 1) * n ≤ length c.put_part.new.out = part_fits i g.P.ForsSizes.K n _ (omega arith) (rw c.USIZE-n.ensures (omega arith)) in
    let inside : i * n ≤ length c.loop-i.out = omega arith in
    below_more _ _
    (λ k low. part_before n i k _ _ _ c.put_part.ensures.front low fits inside ∙ c.loop-i.invariant k low)
    (part_put n i _ _ (take n opened) c.put_part.ensures.front size fits inside ∙ ap (take n) c.piece-opened.ensures.value)
