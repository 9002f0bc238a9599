use Rattle.dsse.proofs.Canonical.{four_forms}
use Rattle.dsse.proofs.laws.bytes_have_four_texts.Goals as goal

pub returns : goal.returns
returns c = four_forms
