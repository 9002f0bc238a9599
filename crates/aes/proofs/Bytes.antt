-- Lists of bytes, element by element, and blocks.
use Rattle.std.proofs.Common.{◌≡◌, ◌<◌, ℕ, suc, List, [], ◌∷◌, length}
use Rattle.aes.specs.Bytes.{AreBytes}

-- each is a byte
abbrev pub AllBytes : List ℕ → Type 0
AllBytes [] = Unit {0}
AllBytes (x ∷ xs) = (x < 256) × AllBytes xs

pub record IsBlock (s : List ℕ) : Type 0 where
  pub size : length s ≡ 16
  pub bytes : AllBytes s

pub all_bytes : (xs : List ℕ) → AreBytes xs → AllBytes xs
all_bytes [] h = tt
all_bytes (x ∷ xs) h = (h 0, all_bytes xs (λ i. h (suc i)))

pub a_block : (s : List ℕ) → length s ≡ 16 → AreBytes s → IsBlock s
a_block s size h = record { size = size; bytes = all_bytes s h }
