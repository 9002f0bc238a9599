-- A hash function with clashes that are known.
use Rattle.std.specs.Prelude.{ℕ, List, replicate, slice_index_or}

-- 32 times the second byte, 0 where there is none
abbrev pub byte_hash : List ℕ → List ℕ
byte_hash m = replicate 32 (slice_index_or m 1 0)
