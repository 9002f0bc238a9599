-- The hash function of a tree.
use Rattle.std.specs.Prelude.{◌≡◌, ℕ, List, length}

abbrev pub HashFunction : Type 0
HashFunction = List ℕ → List ℕ

-- each digest has 32 bytes
abbrev pub HasDigests : HashFunction → Type 0
HasDigests H = (m : List ℕ) → length (H m) ≡ 32
