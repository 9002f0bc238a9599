use Rattle.slh_dsa_c.proofs.sign_pieces.update_in.Goals as goal

pub returns-in-Second-clause-refusal : goal.returns-in-Second-clause-refusal
returns-in-Second-clause-refusal g c = λ key opt_rand context rand m held.
    c.update_again.ensures.refusal key opt_rand context rand m (rw c.in-Second.is at held)

pub returns-in-Second-clause-joins : goal.returns-in-Second-clause-joins
returns-in-Second-clause-joins g c = λ key opt_rand context rand m held.
    rw c.in-Second.is (c.update_again.ensures.joins key opt_rand context rand m (rw c.in-Second.is at held))
