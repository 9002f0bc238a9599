use Rattle.dsse.proofs.ReadBack.{envelope_back}
use Rattle.dsse.proofs.laws.written_is_read.Goals as goal

pub returns : goal.returns
returns c = envelope_back
