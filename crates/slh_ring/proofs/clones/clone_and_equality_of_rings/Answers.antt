use Rattle.std.proofs.Common.{refl, ◌==◌}
use Rattle.std.specs.Cmp.Lexicographic.{pointwise}
use Rattle.std.proofs.lemmas.Bool.Decides.{Decides-eqb}
use Rattle.std.proofs.lemmas.Slice.Eq.{slice_eq-Decides}
use Rattle.slh_ring.proofs.clones.clone_and_equality_of_rings.Goals as goal

pub returns-clause-equal : goal.returns-clause-equal
returns-clause-equal g c =
    slice_eq-Decides (λ p q. slice_eq-Decides Decides-eqb p q (pointwise ◌==◌ p q) refl)
    c.args.a.now c.args.b.now c.eq.result c.eq.ensures
