use Rattle.slh_chain.proofs.walking.is_signed.Goals as goal

pub returns : goal.returns
returns g c = rw c.fitting-body.ensures at c.is_valid.ensures
