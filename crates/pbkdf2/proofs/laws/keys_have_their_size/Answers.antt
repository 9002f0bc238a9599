use Rattle.pbkdf2.proofs.Sizes.{key_bytes, length-key}
use Rattle.pbkdf2.proofs.laws.keys_have_their_size.Goals as goal

pub returns-clause-size : goal.returns-clause-size
returns-clause-size c = length-key

pub returns-clause-bytes : goal.returns-clause-bytes
returns-clause-bytes c = key_bytes
