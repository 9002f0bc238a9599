use Rattle.std.proofs.Common.{arith}
use Rattle.std.proofs.lemmas.Grind.{common_steps}
use Rattle.slh_manifest.proofs.parts.parts_of.Goals as goal

pub returns-in_err-parts : goal.returns-in_err-parts
returns-in_err-parts g c = grind (arith, common_steps)

pub returns-then-parts-SIG_LEN : goal.returns-then-parts-SIG_LEN
returns-then-parts-SIG_LEN g c = grind (arith, common_steps)

pub returns : goal.returns
returns g c = grind (arith, common_steps)
