-- What a `Midstate` stands for: the first block of a message.
use Rattle.std.specs.Prelude.{◌≡◌, ℕ, List, length}
use Rattle.std.specs.Coded.{Coded-set, coded_list, coded_ℕ, ×_prop}
use Rattle.sha256_lanes.specs.Sha256.{compress, initial_words}
use Rattle.sha256_lanes.specs.declared.hashing.Midstate.{Midstate}

-- the list m is a block, and the words are the hash value after it
unfoldable pub BeginsWith : Midstate → List ℕ → Type 0
BeginsWith midstate m = (length m ≡ 64) × (midstate.words ≡ compress initial_words m)

-- for one object and one list this is one fact
pub BeginsWith-prop : (midstate : Midstate) (m : List ℕ) → IsProp (BeginsWith midstate m)
unfolding BeginsWith
BeginsWith-prop midstate m = ×_prop (Coded-set coded_ℕ _ _) (Coded-set (coded_list coded_ℕ) _ _)
