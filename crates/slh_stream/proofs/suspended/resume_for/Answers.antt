use Rattle.slh_stream.proofs.suspended.resume_for.Goals as goal

pub returns-clause-stands : goal.returns-clause-stands
returns-clause-stands g c key context m is =
    let r = c.in_ok-rand.ensures.stands _ _ _ _ is in
    record {
      mode_is = c.in_ok-rand.ensures.mode;
      seed_is = r.seed_is;
      root_is = r.root_is;
      sig_is = c.exact-view.ensures;
      context_fits = r.context_fits;
      taken_is = is.taken_is;
      stands = r.stands;
    }
