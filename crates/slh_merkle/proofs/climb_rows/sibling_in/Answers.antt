use Rattle.std.proofs.Common.{◌≡◌, ◌-◌, ℕ, arith, drop, length, take}
use Rattle.std.proofs.lemmas.List.{length-drop, length-take, take_all}
use Rattle.slh_merkle.proofs.Layers.{part_fits}
use Rattle.slh_merkle.proofs.climb_rows.sibling_in.Goals as goal

pub piece-opened-requires : goal.piece-opened-requires
piece-opened-requires g c =
    part_fits c.args.i g.P.ForsSizes.K c.opened_len.result _ c.requires.tree (rw c.opened_len.ensures.value c.requires.whole)

pub part_of-requires-clause-fits : goal.part_of-requires-clause-fits
part_of-requires-clause-fits g c =
    let n = g.P.N.ArraySize.USIZE in
    let whole = rw c.opened_len.ensures.value at c.piece-opened.ensures.len in
    part_fits c.args.z g.P.ForsSizes.A n _ c.requires.height (rw c.USIZE.ensures (omega (arith, length-take {A = ℕ}, length-drop {A = ℕ}, whole)))

pub returns : goal.returns
returns g c =
    let n = c.USIZE.result in
    let opened = c.piece-opened.result.now in
    let rest : take (length opened - n) (drop n opened) ≡ drop n opened = take_all _ _ (omega (arith, length-drop {A = ℕ})) in
    rw (rest, c.piece-opened.ensures.value, c.opened_len.ensures.value, c.USIZE.ensures) at c.part_of.ensures
