use Rattle.slh_batch.proofs.Under.{by_path, receipt_accepted}
use Rattle.slh_batch.proofs.laws.receipts_stand_for_paths.Goals as goal

pub returns-clause-path : goal.returns-clause-path
returns-clause-path c = by_path

pub returns-clause-accepted : goal.returns-clause-accepted
returns-clause-accepted c = receipt_accepted
