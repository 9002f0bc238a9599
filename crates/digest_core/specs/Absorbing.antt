-- What was absorbed in a call.
use Rattle.std.specs.Prelude.{ℕ, List, ◌++◌}

-- each list for which the object stood has grown by these bytes
pub record Absorbs (before now : List ℕ → Type 0) (bytes : List ℕ) : Type 0 where
  pub grows : (m : List ℕ) → before m → now (m ++ bytes)
