use Rattle.std.proofs.Common.{arith}
use Rattle.std.proofs.lemmas.Grind.{common_steps}
use Rattle.slh_log.proofs.note.read_note.Goals as goal

pub returns-then-bytes-gt-MAX_LEN : goal.returns-then-bytes-gt-MAX_LEN
returns-then-bytes-gt-MAX_LEN c = grind (arith, common_steps)

pub returns-in_err-origin : goal.returns-in_err-origin
returns-in_err-origin c = grind (arith, common_steps)

pub returns-in_err-text : goal.returns-in_err-text
returns-in_err-text c = grind (arith, common_steps)

pub returns-then-not-are_signatures : goal.returns-then-not-are_signatures
returns-then-not-are_signatures c = grind (arith, common_steps)

pub returns : goal.returns
returns c = grind (arith, common_steps)
