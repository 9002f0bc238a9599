use Rattle.slh_batch.proofs.Heads.{head_bound}
use Rattle.slh_batch.proofs.laws.heads_bind.Goals as goal

pub returns : goal.returns
returns c = head_bound
