use Rattle.std.proofs.Common.{◌∙◌, arith, rules}
use Rattle.std.proofs.lemmas.Grind.{common_steps}
use Rattle.digest_core.proofs.Decoding.{two_and_rest}
use Rattle.digest_core.proofs.oid.ObjectIdentifier.from_arcs.Goals as goal

pub returns-then-arcs-lt2 : goal.returns-then-arcs-lt2
returns-then-arcs-lt2 c = grind (arith, common_steps)

pub bounds-arcs-0 : goal.bounds-arcs-0
bounds-arcs-0 c = omega arith

pub bounds-arcs-1 : goal.bounds-arcs-1
bounds-arcs-1 c = omega arith

pub invariant_of-result : goal.invariant_of-result
invariant_of-result c k =
    rw (c.in_ok-octets.ensures.arcs ∙ two_and_rest c.args.arcs.now (omega arith)) (let f = c.type_inv.arcs k in search rules)

pub returns-clause-arcs : goal.returns-clause-arcs
returns-clause-arcs c = c.in_ok-octets.ensures.arcs ∙ two_and_rest c.args.arcs.now (omega arith)
