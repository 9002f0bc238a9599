use Rattle.std.proofs.Common.{◌++◌, length-append, arith}
use Rattle.std.proofs.KnownBytes.{Consumes-trans}
use Rattle.slh_bytes.proofs.Read.{endless, ends_all, handed_on, whole}
use Rattle.slh_bytes.proofs.absorbing.absorb_all.Goals as goal

pub returns-in_err-absorb_some : goal.returns-in_err-absorb_some
returns-in_err-absorb_some g c =
    let (taken, read, stood, count) = c.each_piece.invariant in
    handed_on g.T.Absorber.stands c.args.absorber.now c.absorb_some.new.absorber _ _ c.from_residual.result c.in_err-absorb_some.field-0.0
    (ends_all g.T.Absorber.stands c.args.absorber.now c.each_piece.absorber c.absorb_some.new.absorber _ _ _ _ taken c.in_err-absorb_some.field-0.0 read stood c.in_err-absorb_some.ensures)
    c.from_residual.ensures.1

pub each_piece-preserved : goal.each_piece-preserved
each_piece-preserved g c =
    let (taken, read, stood, count) = c.each_piece.invariant in
    let (piece, size, more, end, goes) = c.in_ok-absorb_some.ensures in (
      taken ++ piece,
      Consumes-trans _ _ _ _ _ read more,
      λ terms begun. (goes taken terms (stood terms begun)).0,
      omega (arith, count, size, length-append taken piece, c.if-branch-eq0.false),
    )

pub returns-then-branch-eq0 : goal.returns-then-branch-eq0
returns-then-branch-eq0 g c =
    let (taken, read, stood, count) = c.each_piece.invariant in
    whole g.T.Absorber.stands c.args.absorber.now c.each_piece.absorber c.absorb_some.new.absorber _ _ _ _ taken _ tt
    c.if-branch-eq0.true read stood c.in_ok-absorb_some.ensures

pub returns : goal.returns
returns g c =
    let (taken, read, stood, count) = c.each_piece.invariant in
    endless g.T.Absorber.stands c.args.absorber.now c.each_piece.absorber _ _ _ taken (omega (arith, count)) read
