use Rattle.std.proofs.Common.{◌+◌, ◌*◌, ◌^◌, ◌<◌, arith, refl, rules}
use Rattle.std.proofs.lemmas.Nat.{one_shl}
use Rattle.slh_merkle.proofs.Forests.{index_in_forest}
use Rattle.slh_merkle.proofs.fors.index_of.Goals as goal

pub overflow_mul-result : goal.overflow_mul-result
overflow_mul-result g c =
    let inside = index_in_forest c.args.i c.args.digit g.P.ForsSizes.K g.P.ForsSizes.A c.requires.tree c.requires.digit in
    let small : c.args.i * 2 ^ g.P.ForsSizes.A < 4294967296 = omega (arith, inside, c.forest_sizes.ensures.leaves) in
    rw (c.A.ensures, one_shl g.P.ForsSizes.A 32 (omega (arith, c.forest_sizes.ensures.bits_high))) (search rules)

pub overflow_add-result : goal.overflow_add-result
overflow_add-result g c =
    let inside = index_in_forest c.args.i c.args.digit g.P.ForsSizes.K g.P.ForsSizes.A c.requires.tree c.requires.digit in
    let small : c.args.i * 2 ^ g.P.ForsSizes.A + c.args.digit < 4294967296 = omega (arith, inside, c.forest_sizes.ensures.leaves) in
    rw (c.A.ensures, one_shl g.P.ForsSizes.A 32 (omega (arith, c.forest_sizes.ensures.bits_high)), c.from.ensures) (search rules)

pub returns-clause-value : goal.returns-clause-value
returns-clause-value g c =
    rw (c.A.ensures, one_shl g.P.ForsSizes.A 32 (omega (arith, c.forest_sizes.ensures.bits_high)), c.from.ensures) refl

pub returns-clause-below : goal.returns-clause-below
returns-clause-below g c =
    rw (c.A.ensures, one_shl g.P.ForsSizes.A 32 (omega (arith, c.forest_sizes.ensures.bits_high)), c.from.ensures)
    (index_in_forest c.args.i c.args.digit g.P.ForsSizes.K g.P.ForsSizes.A c.requires.tree c.requires.digit)
