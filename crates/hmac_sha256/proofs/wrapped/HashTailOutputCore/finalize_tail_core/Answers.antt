use Rattle.std.proofs.Common.{arith}
use Rattle.std.proofs.lemmas.Grind.{common_steps}
use Rattle.hmac_sha256.proofs.wrapped.HashTailOutputCore.finalize_tail_core.Goals as goal

pub returns-then-held-eq0 : goal.returns-then-held-eq0
returns-then-held-eq0 c = grind (arith, common_steps)

pub returns : goal.returns
returns c = grind (arith, common_steps)
