use Rattle.slh_batch.proofs.Climbs.{climb_above, climb_len, climb_root}
use Rattle.slh_batch.proofs.laws.climbs_are_chains.Goals as goal

pub returns-clause-len : goal.returns-clause-len
returns-clause-len c = climb_len

pub returns-clause-above : goal.returns-clause-above
returns-clause-above c = climb_above

pub returns-clause-root : goal.returns-clause-root
returns-clause-root c = climb_root
