-- Lists that are cut into runs of one length.
use Rattle.std.proofs.Common.{◌≡◌, ℕ, zero, suc, ◌*◌, List, [], ◌∷◌, length, drop, arith, length-drop}
use Rattle.std.proofs.lemmas.Grind.{common_steps}
use Rattle.hybrid_array.specs.Runs.{runs, joined}

-- the runs of a list that they fill, one after another, are the list
pub joined-runs : {X : Type 0} (size count : ℕ) (items : List X) → length items ≡ count * size → joined (runs size count items) ≡ items
joined-runs size zero [] whole = grind (arith, common_steps)
joined-runs size zero (x ∷ xs) whole = absurd (omega arith)
joined-runs size (suc count) items whole =
    let left : length (drop size items) ≡ count * size = rw length-drop (omega (arith, whole)) in
    rw (joined-runs size count (drop size items) left) (grind (arith, common_steps))
