use Rattle.std.proofs.Common.{arith, rules, ◌≡◌, ◌<◌, ◌-◌, ◌∙◌, ap, sym, true, false}
use Rattle.slh_chain.specs.Parts.{have_form}
use Rattle.slh_chain.proofs.Stands.{form_here, form_next, links_step, ok_is}
use Rattle.slh_chain.proofs.links.LinksIterator.next.Goals as goal

pub unreachable-requires : goal.unreachable-requires
unreachable-requires g c =
    let some : 0 < c.self.inside.left = omega (arith, c.if-self-eq0.false) in
    let no : false ≡ true = c.in_default.ensures.form.1 (form_here g.P.ForsSizes.scheme _ _ some c.self.invariant) in cc

pub invariant_of-self : goal.invariant_of-self
invariant_of-self g c =
    let some : 0 < c.self.inside.left = omega (arith, c.if-self-eq0.false) in
    ap (have_form g.P.ForsSizes.scheme (c.self.inside.left - 1)) c.in-Some.ensures.rest ∙ form_next g.P.ForsSizes.scheme _ _ some c.self.invariant

pub returns-clause-steps : goal.returns-clause-steps
returns-clause-steps g c =
    let some : 0 < c.self.inside.left = omega (arith, c.if-self-eq0.false) in
    let link = c.in-Some.ensures in
    let key = ok_is c.try_from.result c.unwrap.result _ c.unwrap.ensures c.try_from.ensures.value in
    sym c.self.view_is ∙ links_step g.P.ForsSizes.scheme _ _ _ _ _ _ some link.depth link.name (key ∙ link.subject) link.rest

pub returns-clause-goes : goal.returns-clause-goes
returns-clause-goes g c =
    let some : 0 < c.self.inside.left = omega (arith, c.if-self-eq0.false) in
    let link = c.in-Some.ensures in
    let key = ok_is c.try_from.result c.unwrap.result _ c.unwrap.ensures c.try_from.ensures.value in
    let steps = sym c.self.view_is ∙ links_step g.P.ForsSizes.scheme _ _ _ _ _ _ some link.depth link.name (key ∙ link.subject) link.rest in
    rw steps (search rules)
