use Rattle.std.proofs.Common.{refl}
use Rattle.slh_audit.proofs.Forested.{fors_roots_shown_by}
use Rattle.slh_audit.specs.Evidence.{dispute_on}
use Rattle.slh_core.specs.Parameters.{scheme_of}
use Rattle.slh_audit.proofs.dispute.Dispute.fors_roots_show.Goals as goal

pub returns : goal.returns
returns g c =
    let view = c.self.view_is in
    fors_roots_shown_by (dispute_on (scheme_of g.P.HashSuite.suite g.P.N.ArraySize.USIZE g.P.XmssSizes.H_PRIME g.P.HypertreeSizes.D g.P.ForsSizes.A g.P.ForsSizes.K) c.args.self.now) _ c.self.inside.sk_seed c.self.inside.md.now c.self.inside.forest.now c.self.inside.tree c.self.inside.leaf
    (rw (← view) c.self.invariant.5) (rw (← view) refl) (rw (← view) refl) (rw (← view) refl) (rw (← view) refl) (rw (← view) refl)
    _ _ _ _ (rw (c.fors_roots.ensures, c.new-adrs.ensures) refl) (rw c.new-adrs.ensures at c.checked_roots.ensures) c.own_roots.ensures c.hashes_collide.ensures
