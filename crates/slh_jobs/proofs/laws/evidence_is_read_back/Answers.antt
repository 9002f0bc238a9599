use Rattle.slh_jobs.proofs.EvidenceBack.{evidence_back}
use Rattle.slh_jobs.proofs.laws.evidence_is_read_back.Goals as goal

pub returns : goal.returns
returns c = evidence_back
