use Rattle.std.proofs.Common.{◌∙◌, arith}
use Rattle.slh_merkle.proofs.CostSteps.{fors_pk_cost-signed}
use Rattle.slh_merkle.proofs.fors.fors_sign_root.Goals as goal

pub fors_sign-requires-clause-digest : goal.fors_sign-requires-clause-digest
fors_sign-requires-clause-digest g c = c.requires.digest

pub fors_sign-requires-clause-room : goal.fors_sign-requires-clause-room
fors_sign-requires-clause-room g c = c.requires.room

pub fors_pk_from_sig-requires-clause-digest : goal.fors_pk_from_sig-requires-clause-digest
fors_pk_from_sig-requires-clause-digest g c = c.requires.digest

pub fors_pk_from_sig-requires-clause-whole : goal.fors_pk_from_sig-requires-clause-whole
fors_pk_from_sig-requires-clause-whole g c = c.fors_sign.auto.out ∙ c.requires.room

pub returns-clause-cost : goal.returns-clause-cost
returns-clause-cost g c =
    omega (arith, fors_pk_cost-signed g.P.ForsSizes.K g.P.ForsSizes.A, c.fors_sign.ensures.cost, c.fors_pk_from_sig.ensures.cost)
