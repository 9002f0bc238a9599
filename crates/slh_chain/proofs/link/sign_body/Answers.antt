use Rattle.slh_chain.proofs.link.sign_body.Goals as goal

pub returns : goal.returns
returns g c = rw c.fitting.ensures at c.sign_checked.ensures
