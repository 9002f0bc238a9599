-- Lists that are joined of parts are equal where the parts are.
use Rattle.std.proofs.Common.{◌≡◌, ℕ, List, [], ◌∷◌, ◌++◌, length, true, false, ◌&&◌, ◌==◌, refl, arith}
use Rattle.std.specs.Cmp.Lexicographic.{pointwise}

pub joined_equal : (a b c d : List ℕ) → length a ≡ length c → pointwise ◌==◌ (a ++ b) (c ++ d) ≡ (pointwise ◌==◌ a c && pointwise ◌==◌ b d)
joined_equal [] b [] d same = refl
joined_equal [] b (y ∷ c) d same = absurd (omega (arith, same))
joined_equal (x ∷ a) b [] d same = absurd (omega (arith, same))
joined_equal (x ∷ a) b (y ∷ c) d same =
    elim (x == y) as (λ v. (v && pointwise ◌==◌ (a ++ b) (c ++ d)) ≡ ((v && pointwise ◌==◌ a c) && pointwise ◌==◌ b d)) [
      | true ↦ joined_equal a b c d (omega (arith, same))
      | false ↦ refl
    ]
