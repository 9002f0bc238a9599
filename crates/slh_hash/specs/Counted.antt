-- The hashes of a seed and a counter of four bytes, from 0 on, as a generator gives them.
use Rattle.std.specs.Prelude.{◌≡◌, ℕ, List, ◌∷◌, ◌++◌, length}
use Rattle.sha256_lanes.specs.Sha256.{sha256}
use Rattle.slh_core.specs.Bytes.{big_endian, joined}

-- The first so many hashes of a seed for which a hash stands. The seed and its length come before
-- them, so that who reads some and then others knows that they are of one seed.
pub record GaveHashes (stands : List ℕ → Type 0) (count : ℕ) (m : List ℕ) : Type 0 where
  pub seed : List ℕ
  pub absorbed : stands seed
  pub gave : m ≡ length seed ∷ (seed ++ joined (λ i. sha256 (seed ++ big_endian i 4)) count)
