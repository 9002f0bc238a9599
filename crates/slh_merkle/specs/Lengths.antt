-- How many bytes a leaf of a forest has. The impl of what stands at the leaves cites this lemma, so
-- it stands beside the definitions.
use Rattle.std.specs.Prelude.{◌≡◌, ℕ, List, length}
use Rattle.slh_core.specs.Suite.{HasLength, Seeded}
use Rattle.slh_merkle.specs.Fors.{fors_leaf}

pub length-fors_leaf : (K : Seeded) (sk : List ℕ) (t l i : ℕ) → HasLength K.suite K.n
    → length (fors_leaf K sk t l i) ≡ K.n
unfolding fors_leaf
length-fors_leaf K sk t l i law = law.f _ _ _
