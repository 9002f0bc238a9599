-- A message that comes in pieces.
use Rattle.std.specs.Prelude.{ℕ, List, ◌∷◌}
use Rattle.hmac_sha256.specs.Hash.{StandsFor}
use Rattle.slh_batch.specs.declared.hashing.MessageHasher.{MessageHasher}

-- the pieces of this message came
abbrev pub HasTaken : MessageHasher → List ℕ → Type 0
HasTaken hasher m = StandsFor hasher.hash (0 ∷ m)
