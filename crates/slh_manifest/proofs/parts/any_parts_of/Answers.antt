use Rattle.std.proofs.Common.{arith}
use Rattle.std.proofs.lemmas.Grind.{common_steps}
use Rattle.slh_manifest.proofs.parts.any_parts_of.Goals as goal

pub returns-in_err-count : goal.returns-in_err-count
returns-in_err-count c = grind (arith, common_steps)

pub returns-in_err-signature : goal.returns-in_err-signature
returns-in_err-signature c = grind (arith, common_steps)

pub returns : goal.returns
returns c = grind (arith, common_steps)
