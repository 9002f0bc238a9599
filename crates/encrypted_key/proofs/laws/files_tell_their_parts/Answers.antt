use Rattle.encrypted_key.proofs.Written.{told_of_file}
use Rattle.encrypted_key.proofs.laws.files_tell_their_parts.Goals as goal

pub returns : goal.returns
returns c = told_of_file
