use Rattle.slh_bytes.proofs.OwnKeys.{made_is_read}
use Rattle.slh_bytes.proofs.laws.made_is_read.Goals as goal

pub returns : goal.returns
returns c = made_is_read c.args.set c.run.ensures
