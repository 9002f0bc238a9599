use Rattle.std.proofs.Common.{◌∙◌, ap, sym}
use Rattle.slh_core.specs.Parameters.{Scheme}
use Rattle.slh_dsa_c.specs.SignPieces.{finish_number, pass_number}
use Rattle.slh_dsa_c.proofs.sign_pieces.finish_by.Goals as goal

pub returns-in-Some-Ok-clause-status : goal.returns-in-Some-Ok-clause-status
unfolding finish_number
returns-in-Some-Ok-clause-status g c = λ opt_rand context rand m held.
    let size = ap (λ (Z : Scheme). Z.n) g.met.P.ForsSizes.scheme_is in
    let told = (rw c.in-Ok.ensures.value at c.in-Some-Ok.ensures.refusal) opt_rand context rand m (rw size at held) in
    rw c.in-Ok.ensures.refusal (sym (ap pass_number (rw c.in-Some-Ok.field-0-is at told)))

pub returns-in-Some-Ok-clause-value : goal.returns-in-Some-Ok-clause-value
returns-in-Some-Ok-clause-value g c = λ opt_rand context rand m held zero.
    let size = ap (λ (Z : Scheme). Z.n) g.met.P.ForsSizes.scheme_is in
    let told = (rw c.in-Ok.ensures.value at c.in-Some-Ok.ensures.value) opt_rand context rand m (rw size at held) in
    rw c.in-Some-Ok.field-0-is at told

pub returns-in-Some-Err-clause-status : goal.returns-in-Some-Err-clause-status
unfolding finish_number
returns-in-Some-Err-clause-status g c = λ opt_rand context rand m held.
    let size = ap (λ (Z : Scheme). Z.n) g.met.P.ForsSizes.scheme_is in
    let told = (rw c.in-Ok.ensures.value at c.in-Some-Err.ensures.refusal) opt_rand context rand m (rw size at held) in
    rw c.in-Ok.ensures.refusal (c.number_of_pass.ensures ∙ sym (ap pass_number (rw c.in-Some-Err.field-0-is at told)))
