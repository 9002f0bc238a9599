use Rattle.slh_envelope.proofs.opening.open.Goals as goal

pub returns-in-Err-Form-clause-err : goal.returns-in-Err-Form-clause-err
returns-in-Err-Form-clause-err g c = c.read_envelope.ensures.form cc
