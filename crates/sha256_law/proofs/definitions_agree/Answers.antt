use Rattle.sha256_law.proofs.Agreement.{agreement}
use Rattle.sha256_law.proofs.definitions_agree.Goals as goal

pub returns : goal.returns
returns c = agreement
