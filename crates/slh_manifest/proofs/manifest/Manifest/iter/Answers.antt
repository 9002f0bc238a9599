use Rattle.std.proofs.Common.{arith}
use Rattle.std.proofs.lemmas.Grind.{common_steps}
use Rattle.slh_manifest.proofs.manifest.Manifest.iter.Goals as goal

pub returns : goal.returns
returns c = grind (arith, common_steps)
