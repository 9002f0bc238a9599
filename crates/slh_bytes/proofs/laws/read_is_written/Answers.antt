use Rattle.slh_bytes.proofs.ReadBack.{read_is_written}
use Rattle.slh_bytes.proofs.laws.read_is_written.Goals as goal

pub returns : goal.returns
returns c = read_is_written
