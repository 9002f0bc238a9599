use Rattle.slh_bytes.proofs.Handing.{on_ok}
use Rattle.slh_bytes.proofs.absorber.DigestSignerAbsorber.absorb.Goals as goal

pub returns-clause-refusal : goal.returns-clause-refusal
returns-clause-refusal g c terms m stood = c.update.ensures.refusal terms.mode terms.key terms.opt_rand terms.context m stood

pub returns-clause-joins : goal.returns-clause-joins
returns-clause-joins g c =
    on_ok c.update.result (λ joins terms m stood. joins terms.mode terms.key terms.opt_rand terms.context m stood) c.update.ensures.joins
