use Rattle.log_files.proofs.OwnNames.{own_names}
use Rattle.log_files.proofs.laws.files_have_names.Goals as goal

pub returns : goal.returns
returns c = own_names
