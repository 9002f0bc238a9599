-- Where a buffer stands.
use Rattle.std.specs.Prelude.{ℕ, ◌+◌, ◌<◌, ◌≤◌}

-- a position of a kind whose full blocks let so many bytes wait, in a block of a size that the
-- buffer's places can hold
pub record IsPosition (waiting size pos : ℕ) : Type 0 where
  pub low : 1 ≤ size
  pub high : size ≤ 255
  pub in_range : pos < size + waiting
