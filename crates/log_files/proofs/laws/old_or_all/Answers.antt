use Rattle.log_files.proofs.Kept.{head_last, others_kept}
use Rattle.log_files.proofs.laws.old_or_all.Goals as goal

pub returns-clause-others : goal.returns-clause-others
returns-clause-others c = others_kept

pub returns-clause-head_is_last : goal.returns-clause-head_is_last
returns-clause-head_is_last c = head_last
