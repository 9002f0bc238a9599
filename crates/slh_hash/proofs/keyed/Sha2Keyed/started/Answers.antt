use Rattle.slh_hash.proofs.Started.{wrapped_stands}
use Rattle.slh_hash.proofs.keyed.Sha2Keyed.started.Goals as goal

pub returns-clause-stands : goal.returns-clause-stands
returns-clause-stands g c = wrapped_stands _ _ _ c.args.self.now.nothing_held c.args.self.now.stands
