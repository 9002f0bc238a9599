use Rattle.slh_merkle.proofs.Layers.{part_fits}
use Rattle.slh_audit.proofs.forest.opened_parts.Goals as goal

pub piece-requires : goal.piece-requires
piece-requires g c =
    part_fits c.args.tree g.P.ForsSizes.K c.opened_len.result _ c.requires.tree (rw c.opened_len.ensures.value c.requires.whole)
