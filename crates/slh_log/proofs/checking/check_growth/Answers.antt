use Rattle.std.proofs.Common.{arith}
use Rattle.std.proofs.lemmas.Grind.{common_steps}
use Rattle.slh_log.proofs.checking.check_growth.Goals as goal

pub returns-then-old-eq0 : goal.returns-then-old-eq0
returns-then-old-eq0 c = grind (arith, common_steps)

pub returns-then-new-old : goal.returns-then-new-old
returns-then-new-old c = grind (arith, common_steps)

pub proof_len-requires : goal.proof_len-requires
proof_len-requires c = grind (arith, common_steps)

pub returns-then-proof-proof_len : goal.returns-then-proof-proof_len
returns-then-proof-proof_len c = grind (arith, common_steps)

pub returns-then-not-check_consistency : goal.returns-then-not-check_consistency
returns-then-not-check_consistency c = grind (arith, common_steps)

pub returns : goal.returns
returns c = grind (arith, common_steps)
