use Rattle.std.proofs.Common.{arith, [], ap}
use Rattle.std.proofs.lemmas.Grind.{common_steps}
use Rattle.slh_core.specs.Parameters.{Scheme}
use Rattle.slh_dsa_c.proofs.sign_pieces.BeginOnSet.on.Goals as goal

pub returns-in-Ok-new : goal.returns-in-Ok-new
returns-in-Ok-new g c =
    let size = ap (λ (Z : Scheme). Z.n) g.met.P.ForsSizes.scheme_is in
    let begun = c.new-in-Ok-new.ensures _ _ _ [] (rw c.in-Ok.ensures.value at c.in-Ok-new.ensures.empty) in
    grind (arith, common_steps, size, begun)
