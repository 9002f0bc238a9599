use Rattle.std.proofs.Common.{◌≡◌, ◌+◌, ◌-◌, ◌*◌, ◌∙◌, arith, length, refl, sym}
use Rattle.std.proofs.lemmas.List.{take_all}
use Rattle.slh_audit.proofs.Told.{rows_fit}
use Rattle.slh_core.proofs.Joins.{joined_more}
use Rattle.slh_merkle.proofs.Rows.{none_joined}
use Rattle.slh_audit.proofs.dispute.Dispute.own_roots.Goals as goal

pub fors_node-root-requires-clause-node : goal.fors_node-root-requires-clause-node
fors_node-root-requires-clause-node g c =
    let root : g.P.ForsSizes.A - c.A-height.result ≡ 0 = omega (arith, c.A-height.ensures) in
    rw root (omega (arith, c.loop-i-test.true, c.K-i-end.ensures))

pub put_part-requires-clause-fits : goal.put_part-requires-clause-fits
put_part-requires-clause-fits g c =
    rw c.USIZE-n.ensures (rows_fit (c.loop-i.i + 1) g.P.ForsSizes.K g.P.N.ArraySize.USIZE (length c.loop-i.out) (omega (arith, c.loop-i-test.true, c.K-i-end.ensures)) (c.loop-i.auto.out ∙ c.requires))

pub loop-i-init : goal.loop-i-init
loop-i-init g c = none_joined _ _ _

pub loop-i-preserved : goal.loop-i-preserved
loop-i-preserved g c =
    rw (c.put_part.ensures.front, c.loop-i.invariant, joined_more, c.as_slice.ensures.value, c.fors_node-root.ensures.value, c.self.invariant.5, c.new-adrs.ensures, c.A-height.ensures, ← c.self.view_is) refl

pub returns : goal.returns
returns g c =
    let k = g.P.ForsSizes.K in
    let n = g.P.N.ArraySize.USIZE in
    let last : c.loop-i.i ≡ k = omega (arith, c.loop-i-test.false, c.loop-i.auto.i-end, c.K-i-end.ensures) in
    let len : length c.loop-i.out ≡ k * n = c.loop-i.auto.out ∙ c.requires in
    sym (take_all (k * n) c.loop-i.out (omega arith)) ∙ rw (last, c.USIZE-n.ensures) at c.loop-i.invariant
