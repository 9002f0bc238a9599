use Rattle.slh_stream.proofs.suspended.SuspendedVerifier.finish.Goals as goal

pub returns-in_err-verifier-clause-value : goal.returns-in_err-verifier-clause-value
returns-in_err-verifier-clause-value g c key context m is = absurd (c.in_err-verifier.ensures.stands _ _ _ is)

pub returns-clause-value : goal.returns-clause-value
returns-clause-value g c key context m is = c.finish.ensures.value _ _ _ _ _ (c.in_ok-verifier.ensures.stands _ _ _ is)

pub returns-clause-other : goal.returns-clause-other
returns-clause-other g c key context rand m is size differs =
    let none = c.in_ok-verifier.ensures.other _ _ _ _ is differs in
    cc none
