use Rattle.std.proofs.Common.{arith}
use Rattle.std.proofs.lemmas.Grind.{common_steps}
use Rattle.slh_manifest_cli.proofs.checking.check_line.Goals as goal

pub returns-in_err-key : goal.returns-in_err-key
returns-in_err-key g c = grind (arith, common_steps)

pub returns-in_err-manifest : goal.returns-in_err-manifest
returns-in_err-manifest g c = grind (arith, common_steps)

pub returns-in_err-pairs : goal.returns-in_err-pairs
returns-in_err-pairs g c = grind (arith, common_steps)

pub returns : goal.returns
returns g c = grind (arith, common_steps)
