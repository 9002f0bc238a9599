use Rattle.slh_bytes.proofs.RoundTrip.{written_is_read}
use Rattle.slh_bytes.proofs.laws.written_is_read.Goals as goal

pub returns : goal.returns
returns c = written_is_read
