use Rattle.std.proofs.Common.{arith}
use Rattle.std.proofs.lemmas.Grind.{common_steps}
use Rattle.slh_log.proofs.note.read_unverified.Goals as goal

pub returns-in_err-note : goal.returns-in_err-note
returns-in_err-note c = grind (arith, common_steps)

pub returns : goal.returns
returns c = grind (arith, common_steps)
