use Rattle.slh_bytes.proofs.Handing.{on_ok}
use Rattle.slh_bytes.proofs.absorber.MessageVerifierAbsorber.absorb.Goals as goal

pub returns-clause-joins : goal.returns-clause-joins
returns-clause-joins g c =
    on_ok c.update.result (λ joins terms m stood. joins terms.mode terms.key terms.context terms.signature m stood) c.update.ensures.joins
