use Rattle.std.proofs.Common.{◌∙◌, refl, rules}
use Rattle.std.proofs.lemmas.Result.{err_from_is_err_and}
use Rattle.slh_chain.proofs.Last.{at_end, at_fault, at_next}
use Rattle.slh_chain.proofs.Stands.{ok_is}
use Rattle.slh_chain.proofs.links.last_link.Goals as goal

pub returns-in_err-link-clause-fault : goal.returns-in_err-link-clause-fault
returns-in_err-link-clause-fault g c =
    let p = err_from_is_err_and c.from_residual.result c.from_residual.ensures.1 in
    rw (p.1, p.2) (at_fault g.P.ForsSizes.scheme c.args.chain.now c.loop-last.rest.now _ _ _ _ c.loop-last.invariant (search rules) c.in_err-link.ensures.refusal)

pub loop-last-preserved : goal.loop-last-preserved
loop-last-preserved g c =
    let e = c.in_ok-link.ensures in
    let key = ok_is c.try_from.result c.unwrap.result _ c.unwrap.ensures c.try_from.ensures.value ∙ e.subject in
    let next = at_next g.P.ForsSizes.scheme c.args.chain.now c.loop-last.rest.now _ _ _ _ _ c.loop-last.invariant (search rules) e.refusal refl refl (rw e.depth at e.falls) in
    rw (e.depth, e.name, key, e.rest) next

pub returns-clause-last : goal.returns-clause-last
returns-clause-last g c =
    at_end g.P.ForsSizes.scheme c.args.chain.now c.loop-last.rest.now _ _ _ c.loop-last.invariant (search rules)
