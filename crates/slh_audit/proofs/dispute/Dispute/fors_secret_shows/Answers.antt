use Rattle.std.proofs.Common.{◌∙◌}
use Rattle.slh_audit.proofs.Disputed.{fors_secret_told}
use Rattle.slh_audit.proofs.Meaning.{IsShown, fors_secret_means}
use Rattle.slh_audit.proofs.Shown.{says, told}
use Rattle.slh_core.specs.Digits.{digits}
use Rattle.slh_core.specs.Suite.{seeded}
use Rattle.slh_audit.proofs.dispute.Dispute.fors_secret_shows.Goals as goal

pub returns : goal.returns
unfolding IsShown
returns g c =
    let s = c.self.inside in
    let a = g.P.ForsSizes.A in
    let raw = fors_secret_told (seeded g.P.HashSuite.suite g.P.N.ArraySize.USIZE s.pk_seed) _ c.self.invariant.5 s.sk_seed s.forest.now (digits s.md.now a g.P.ForsSizes.K) s.tree s.leaf a c.args.tree _ _ _ _ _ _
    c.named_leaf-y.ensures.value (c.exact-secret.ensures ∙ c.opened_parts.ensures.secret)
    (rw c.new-adrs.ensures at c.fors_sk_gen-own.ensures.value)
    (rw (c.at_node.ensures.bytes, c.new-adrs.ensures) at c.f-leaf.ensures.value)
    (rw c.new-adrs.ensures at c.own_leaf-own_leaf.ensures) c.values_collide.ensures in
    let tells = says _ _ raw (fors_secret_means _ _ _ _ _ _ _ _) in
    told _ _ _ (rw (← c.self.view_is) ((λ t. (c.requires, tells.0 t)), (λ shows. tells.1 shows.1)))
