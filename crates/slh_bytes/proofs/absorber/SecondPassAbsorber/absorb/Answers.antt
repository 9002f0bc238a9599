use Rattle.std.proofs.Common.{◌∙◌}
use Rattle.slh_bytes.proofs.Handing.{on_ok}
use Rattle.slh_bytes.proofs.absorber.SecondPassAbsorber.absorb.Goals as goal

pub returns-clause-joins : goal.returns-clause-joins
returns-clause-joins g c =
    on_ok c.update.result (λ joins terms m stood. (joins terms.key terms.opt_rand terms.context m stood.0, c.update.ensures.kept ∙ stood.1)) c.update.ensures.joins
