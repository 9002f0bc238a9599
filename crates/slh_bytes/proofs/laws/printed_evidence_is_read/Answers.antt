use Rattle.slh_bytes.proofs.WordsBack.{words_back}
use Rattle.slh_bytes.proofs.laws.printed_evidence_is_read.Goals as goal

pub returns : goal.returns
returns c = words_back
