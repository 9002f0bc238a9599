use Rattle.slh_batch.proofs.Heads.{accepted_whole, refused_whole, same_whole}
use Rattle.slh_batch.proofs.laws.heads_stand_for_receipts.Goals as goal

pub returns-clause-accepted : goal.returns-clause-accepted
returns-clause-accepted g c = accepted_whole g.P.ForsSizes.scheme

pub returns-clause-refused : goal.returns-clause-refused
returns-clause-refused g c = refused_whole g.P.ForsSizes.scheme

pub returns-clause-same : goal.returns-clause-same
returns-clause-same g c = same_whole g.P.ForsSizes.scheme
