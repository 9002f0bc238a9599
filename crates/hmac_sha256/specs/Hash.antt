-- What a `Hash` stands for: the list of the bytes that it has absorbed.
use Rattle.std.specs.Prelude.{◌≡◌, refl, ℕ, ◌-◌, ◌*◌, ◌/◌, ◌%◌, List, [], length, take, drop}
use Rattle.std.specs.Prelude.{replicate}
use Rattle.std.specs.Coded.{Coded-set, coded_list, coded_ℕ}
use Rattle.hmac_sha256.specs.declared.hashing.Hash.{Hash}
use Rattle.sha256_lanes.specs.Sha256.{fold_blocks, initial_words}

-- the words are the hash value after m's whole blocks, the bytes are the rest of m, and the count
-- is m's length
pub record HasAbsorbed (words bytes : List ℕ) (count : ℕ) (m : List ℕ) : Type 0 where
  pub folded : words ≡ fold_blocks initial_words m (length m / 64)
  pub rest : bytes ≡ drop (64 * (length m / 64)) m
  pub counted : count ≡ length m

-- the hash that has absorbed nothing
unfoldable pub new_hash : Hash
new_hash = record { state = initial_words; block = replicate 64 0; total = 0 }

-- how many bytes a hash has absorbed, by its own count
unfoldable pub absorbed_bytes : Hash → ℕ
absorbed_bytes hash = hash.total

-- The hash stands for the list m: its eight words are the hash value after m's whole blocks, the
-- bytes that it holds are the rest of m, and the number that it keeps is m's length.
unfoldable pub StandsFor : Hash → List ℕ → Type 0
StandsFor hash m = HasAbsorbed hash.state (take (hash.total % 64) hash.block) hash.total m

-- zeros stand behind the bytes that the hash holds
unfoldable pub IsClear : Hash → Type 0
IsClear hash = drop (hash.total % 64) hash.block ≡ replicate (64 - hash.total % 64) 0

-- for one hash and one list this is one fact
pub StandsFor-prop : (hash : Hash) (m : List ℕ) → IsProp (StandsFor hash m)
unfolding StandsFor
StandsFor-prop hash m = hlevel (Coded-set (coded_list coded_ℕ), Coded-set coded_ℕ)

-- the hash that has absorbed nothing stands for the empty list
pub new_hash-StandsFor : StandsFor new_hash []
unfolding StandsFor new_hash fold_blocks
new_hash-StandsFor = record { folded = refl; rest = refl; counted = refl }

pub new_hash-counts : absorbed_bytes new_hash ≡ 0
unfolding absorbed_bytes new_hash
new_hash-counts = refl
