use Rattle.log_files.proofs.HeadLast.{all_done, answered, head_separate, separate, stopped}
use Rattle.log_files.proofs.laws.checkpoint_is_last.Goals as goal

pub returns-clause-stopped : goal.returns-clause-stopped
returns-clause-stopped c = stopped

pub returns-clause-answered : goal.returns-clause-answered
returns-clause-answered c = answered

pub returns-clause-done : goal.returns-clause-done
returns-clause-done c = all_done

pub returns-clause-pieces : goal.returns-clause-pieces
returns-clause-pieces c = separate

pub returns-clause-head : goal.returns-clause-head
returns-clause-head c = head_separate
