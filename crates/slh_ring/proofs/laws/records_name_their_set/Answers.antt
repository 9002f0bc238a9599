use Rattle.slh_ring.proofs.SetNames.{set_named}
use Rattle.slh_ring.proofs.laws.records_name_their_set.Goals as goal

pub returns : goal.returns
returns c = set_named
