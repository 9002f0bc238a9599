use Rattle.slh_audit.proofs.Order.{is_first}
use Rattle.slh_audit.proofs.laws.first_evidence_is_first.Goals as goal

pub returns : goal.returns
returns c = λ D e found. is_first D e found
