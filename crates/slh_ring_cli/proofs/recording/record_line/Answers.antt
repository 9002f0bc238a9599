use Rattle.std.proofs.Common.{arith}
use Rattle.std.proofs.lemmas.Grind.{common_steps}
use Rattle.slh_ring_cli.proofs.recording.record_line.Goals as goal

pub returns-in_err-paths : goal.returns-in_err-paths
returns-in_err-paths g c = grind (arith, common_steps)

pub returns-in_err-master : goal.returns-in_err-master
returns-in_err-master g c = grind (arith, common_steps)

pub returns : goal.returns
returns g c = grind (arith, common_steps)
