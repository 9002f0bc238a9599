use Rattle.slh_bytes.proofs.UnderPassphrase.{encrypted_is_read}
use Rattle.slh_bytes.proofs.laws.encrypted_is_read.Goals as goal

pub returns : goal.returns
returns c = encrypted_is_read
