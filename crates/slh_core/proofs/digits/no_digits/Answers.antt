use Rattle.std.proofs.Common.{◌∙◌, arith}
use Rattle.std.proofs.Math.ListN.{replicate}
use Rattle.std.proofs.lemmas.List.{get_or-replicate, get_or-take}
use Rattle.slh_core.proofs.digits.no_digits.Goals as goal

pub returns-clause-none : goal.returns-clause-none
returns-clause-none c = λ k low.
    get_or-take c.args.count (replicate 67 16) k 0 low ∙ get_or-replicate 67 k 16 0 (omega (arith, low))
