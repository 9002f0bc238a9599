use Rattle.encrypted_key.proofs.Written.{decrypted_of_encrypted}
use Rattle.encrypted_key.proofs.laws.written_is_read.Goals as goal

pub returns : goal.returns
returns c = decrypted_of_encrypted
